pub mod OrderedSets
