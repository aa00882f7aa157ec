pub mod Elements
pub mod PatternIterator
pub mod TokenTrees
pub mod Recording
pub mod Bindings
pub mod Placeholders
pub mod Numbers
pub mod Private
