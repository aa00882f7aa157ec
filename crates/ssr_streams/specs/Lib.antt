pub mod Private
pub mod Streams
