pub mod Calm
pub mod Distinct
pub mod Turns
