pub mod Flattening
pub mod Made
pub mod Starts
pub mod Found
pub mod Rewriting
