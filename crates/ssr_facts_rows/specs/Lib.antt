pub mod Fields
pub mod Ids
pub mod Places
pub mod Sources
pub mod Meanings
pub mod Facts
pub mod Private
