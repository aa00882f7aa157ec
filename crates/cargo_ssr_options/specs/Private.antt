pub mod RulesFile
