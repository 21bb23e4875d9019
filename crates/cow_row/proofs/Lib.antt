pub mod Around
pub mod Gaps
pub mod Packed
pub mod Runs
pub mod Splices
pub mod Whole
