pub mod Names
pub mod Patch
pub mod Private
