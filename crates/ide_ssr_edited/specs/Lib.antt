pub mod Edited
pub mod Expected
