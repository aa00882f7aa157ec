-- Words of private functions. No public clause cites them, and no reader of those has to believe them.
pub mod Marks
pub mod Shapes
pub mod Operands
pub mod Arguments
pub mod Joining
