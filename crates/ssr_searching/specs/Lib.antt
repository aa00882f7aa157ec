pub mod Searching
pub mod Unresolved
pub mod Private
