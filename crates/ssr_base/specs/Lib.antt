pub mod Building
pub mod Editing
pub mod Private
