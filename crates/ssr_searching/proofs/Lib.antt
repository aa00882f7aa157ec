mod RulesRead
mod Telling
mod Replacing
mod Reaching
mod Outcomes
pub mod Shared
