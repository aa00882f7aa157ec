-- Words of private functions, and of the invariant of private fields. No public clause cites them, and no reader of those has
-- to believe them.
pub mod Placeholders
pub mod Marks
pub mod TemplateTables
pub mod ReceiverTables
