pub mod Shared
mod Placed
mod Leaves
mod Laid
mod Solidity
mod SolidLaws
mod Tiles
mod TreeTokens
mod Wholes
mod Trimmed
mod Trimming
mod MacroNames
mod Seams
