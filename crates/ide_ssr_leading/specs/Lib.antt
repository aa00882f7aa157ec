pub mod Leading
pub mod Found
pub mod Tries
pub mod Private
