pub mod Params
pub mod Adts
pub mod Uses
