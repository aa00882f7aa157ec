pub mod Syntax
pub mod Places
pub mod Parts
pub mod SyntaxCode
pub mod ClearPaths
pub mod Private
