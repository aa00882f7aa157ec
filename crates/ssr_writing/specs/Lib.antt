pub mod Disk
pub mod Private
pub mod Replay
pub mod Temporary
