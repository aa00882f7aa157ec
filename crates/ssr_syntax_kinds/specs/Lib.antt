pub mod Kinds
pub mod Reach
pub mod TokenRows
pub mod Private
