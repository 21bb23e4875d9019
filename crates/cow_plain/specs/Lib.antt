pub mod Combinings
pub mod Kinds
pub mod Placings
pub mod Scripts
