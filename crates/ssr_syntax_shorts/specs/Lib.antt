pub mod Shorts
pub mod Names
pub mod Told
pub mod ShortsCode
pub mod Private
pub mod Made
