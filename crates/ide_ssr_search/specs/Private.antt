-- Words of private functions and of the invariants of private fields. No public clause cites them, and no reader of
-- those has to believe them.
pub mod Shut
pub mod Bounds
pub mod Whole
pub mod Words
pub mod Roots
pub mod KnownTrees
pub mod Scan
pub mod Files
