-- Words of how private fields are seen. No public clause cites them.
pub mod Complete
pub mod Scopes
pub mod Locals
pub mod Meanings
pub mod Found
pub mod Answered
pub mod Settling
pub mod Macros
pub mod Rows
pub mod Printed
pub mod Copies
