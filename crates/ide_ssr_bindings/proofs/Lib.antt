pub mod Shared
mod Nodes
mod Holding
pub mod Deciding
