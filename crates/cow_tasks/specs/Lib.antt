pub mod Blocks
pub mod Captures
pub mod Joins
pub mod Tasks
