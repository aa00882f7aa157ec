pub mod Arguments
pub mod Forms
pub mod Calls
pub mod Private
