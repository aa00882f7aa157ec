pub mod Changes
pub mod Shared
mod Numbers
mod Placing
mod CoverLaws
mod CoverSpans
mod StoredLaws
mod Built
mod Growing
mod Parents
mod Above
mod Ranges
mod SameRes
