pub mod Literals
pub mod Paths
pub mod Types
pub mod TokenTrees
pub mod PatternSets
