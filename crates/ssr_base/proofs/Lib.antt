pub mod Shared
mod Finding
mod Joining
mod Chosen
mod Calls
mod Turns
mod Added
mod Adding
mod Built
