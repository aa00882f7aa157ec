pub mod Keys
pub mod Resolving
pub mod Used
pub mod QualifiedCalls
pub mod Eligible
pub mod Resolved
pub mod Private
