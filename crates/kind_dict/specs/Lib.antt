pub mod Dicts
pub mod Values
