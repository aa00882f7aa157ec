pub mod Planned
pub mod Private
pub mod Providers
pub mod Running
pub mod Status
