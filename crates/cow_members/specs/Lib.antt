pub mod Ascents
pub mod Members
pub mod Orders
pub mod Sets
