pub mod TreeSets
