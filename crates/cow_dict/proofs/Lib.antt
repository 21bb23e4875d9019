pub mod Calls
pub mod Maps
pub mod Merges
pub mod Orders
pub mod Questions
pub mod Sides
