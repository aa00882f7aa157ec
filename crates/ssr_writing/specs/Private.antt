-- Words of how private fields are seen. No public clause cites them, and no reader of those has to believe them.
pub mod Noted
pub mod Taken
