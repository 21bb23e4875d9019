pub mod Alike
pub mod Equals
pub mod Members
pub mod Parts
pub mod Printing
pub mod Units
