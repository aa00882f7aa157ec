pub mod Fronts
pub mod Forms
pub mod Parts
pub mod SetAside
pub mod SetAsideCode
pub mod Sparing
pub mod Beside
pub mod Private
