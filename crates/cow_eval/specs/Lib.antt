pub mod Entries
pub mod Envs
pub mod Looks
pub mod Statements
