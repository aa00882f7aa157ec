-- Words of private functions and of the invariants of private fields. No public clause cites them, and no reader of
-- those has to believe them.
pub mod Children
pub mod ChildNodes
pub mod Calls
pub mod Records
pub mod Bindings
pub mod Matcher
