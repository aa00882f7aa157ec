mod SameKinds
pub mod Zips
pub mod Shared
mod RowCounts
