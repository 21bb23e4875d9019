pub mod OrderedDicts
pub mod Values
