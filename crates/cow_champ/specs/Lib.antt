pub mod Node
pub mod Spending
pub mod Words
