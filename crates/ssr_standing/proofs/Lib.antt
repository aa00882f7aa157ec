mod Passed
mod SiblingMarks
mod Segments
mod SameForests
mod Pairwise
mod ClearRuns
mod Alike
mod SameMarks
mod Places
mod Standings
mod PartChanges
mod Spelled
mod Calls
mod Nearest
mod Below
mod CodeEnds
mod Settled
pub mod Shared
