pub mod Commands
pub mod Output
pub mod OfFile
pub mod OfFacts
pub mod Running
pub mod Private
