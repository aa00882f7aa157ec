-- Words of private functions and of the invariants of private fields. No public clause cites them, and no reader of
-- those has to believe them.
pub mod Leads
pub mod Reached
pub mod LedRules
pub mod Usages
pub mod Finding
