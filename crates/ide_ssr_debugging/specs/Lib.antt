pub mod Expressions
pub mod Debugging
pub mod Private
