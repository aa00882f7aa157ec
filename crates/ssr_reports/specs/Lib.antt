pub mod Places
pub mod Summary
pub mod JsonLines
