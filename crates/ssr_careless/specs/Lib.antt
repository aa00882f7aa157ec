pub mod Careless
pub mod Private
