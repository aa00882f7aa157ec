pub mod Reading
pub mod OneFile
pub mod OneText
pub mod OfFile
pub mod OfFacts
pub mod Parts
pub mod Outputs
pub mod Answering
