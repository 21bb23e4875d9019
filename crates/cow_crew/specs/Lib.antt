pub mod Order
pub mod Passes
pub mod Places
pub mod Rule
