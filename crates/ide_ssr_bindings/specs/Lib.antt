pub mod Apart
pub mod Found
pub mod Receivers
