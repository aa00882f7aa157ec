pub mod Swapped
pub mod Private
