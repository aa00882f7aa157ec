mod Appended
mod Solid
mod Rests
mod Commas
mod Runs
mod FirstTokens
mod Sizes
mod Agreement
mod Steps
mod Matched
mod Held
mod Bound
mod Numbers
pub mod Shared
