pub mod Heaps
pub mod Levels
