pub mod Solid
pub mod SolidKinds
pub mod Lossless
pub mod Leaves
pub mod Preorder
pub mod TreeTokens
pub mod MacroRules
pub mod Private
