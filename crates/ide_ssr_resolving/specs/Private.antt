-- Words of private functions. No public clause cites them, and no reader of those has to believe them.
pub mod Parts
pub mod Pieces
pub mod Steps
pub mod Marks
