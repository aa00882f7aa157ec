pub mod Order
pub mod Kept
pub mod Holding
pub mod Lists
pub mod KeptCode
pub mod Laws
pub mod Private
