-- Words of private functions and of the invariants of private fields. No public clause cites them, and no reader of those has to
-- believe them.
pub mod Maps
pub mod Complete
pub mod Nodes
pub mod Scopes
pub mod Reading
