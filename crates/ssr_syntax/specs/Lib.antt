pub mod Grammar
pub mod Decision
pub mod Operands
pub mod Identifiers
pub mod Reading
pub mod Expansions
pub mod Private
