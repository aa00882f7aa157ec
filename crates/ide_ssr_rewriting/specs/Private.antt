-- Words of private functions. No public clause cites them, and no reader of those has to believe them.
pub mod Clashes
pub mod Replacements
pub mod Nest
pub mod Edits
pub mod Pieces
pub mod Parts
pub mod Comments
pub mod Groups
pub mod Fitting
pub mod Files
