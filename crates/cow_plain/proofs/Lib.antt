pub mod Ends
pub mod Positions
