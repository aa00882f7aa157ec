pub mod Command
pub mod Given
pub mod Place
pub mod Private
pub mod RulesFile
