pub mod Combining
pub mod Departures
pub mod Tries
