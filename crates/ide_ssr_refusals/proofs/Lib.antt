mod Telling
pub mod Shared
