pub mod Forms
pub mod Units
