pub mod Alone
pub mod Below
pub mod Leavings
pub mod Removals
pub mod Withdrawn
