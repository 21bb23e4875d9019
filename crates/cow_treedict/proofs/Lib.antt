pub mod Departures
pub mod Filters
pub mod Joins
pub mod Makes
pub mod Trees
