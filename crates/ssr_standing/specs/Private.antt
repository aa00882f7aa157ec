-- Words of private functions. No public clause cites them, and no reader of those has to believe them.
pub mod Holes
pub mod Passing
pub mod Marks
pub mod Siblings
pub mod Runs
pub mod Outlines
pub mod Spelling
pub mod Expansions
