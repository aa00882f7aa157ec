-- Words of private functions. No public clause cites them, and no reader of those has to believe them.
pub mod Order
pub mod Shown
pub mod Entries
