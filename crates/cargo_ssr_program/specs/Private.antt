-- Words of private functions. No public clause cites them, and no reader of those has to believe them.
pub mod Complete
pub mod Telling
pub mod Tasks
