mod Lists
mod Rows
mod Keys
mod Uses
mod Same
mod ByTree
mod Places
mod Best
mod Shortest
mod Sweep
mod Told
mod Answered
mod OneWorkspace
mod OneAnswer
pub mod Shared
