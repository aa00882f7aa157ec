pub mod Items
pub mod Statements
