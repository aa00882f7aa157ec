pub mod Blocks
pub mod Atoms
pub mod Expressions
pub mod Conditions
pub mod GenericArgs
pub mod Private
