pub mod Dictionaries
pub mod Storages
