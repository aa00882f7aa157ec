pub mod Rewriting
pub mod Findings
pub mod ByFacts
pub mod OneFunction
pub mod Private
