-- Words of private functions and of the invariants of private fields. No public clause cites them, and no reader of
-- those has to believe them.
pub mod OpenNodes
pub mod Turning
pub mod Packing
pub mod SolidKinds
