mod Children
mod Tokens
mod Pieces
mod Names
mod StandIns
mod Steps
mod Walk
mod QualifiedCalls
mod FirstArguments
mod UsedNodes
mod InArguments
mod Alone
mod Callees
pub mod Shared
