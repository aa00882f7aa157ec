pub mod Lists
pub mod Shared
mod RowCounts
mod Siblings
mod ReadBack
mod RowLaws
mod KindsOfNodes
mod Places
mod Above
mod Ranges
mod Covering
mod Steps
mod Nodes
mod Agreeing
