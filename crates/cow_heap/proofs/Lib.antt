pub mod Costs
pub mod Extremes
pub mod Sorted
pub mod Steps
