-- Words of how private fields are seen and errors converted. No public clause cites them, and no reader of those has to believe them.
pub mod Searching
pub mod Unresolved
