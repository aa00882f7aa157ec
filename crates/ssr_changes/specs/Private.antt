-- Words of private functions. No public clause cites them, and no reader of those has to believe them.
pub mod Building
pub mod Changing
pub mod Finding
pub mod Planning
pub mod Standing
