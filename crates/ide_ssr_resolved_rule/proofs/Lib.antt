mod Children
mod Tokens
mod NamePlaces
mod StandIns
mod Nodes
mod Marks
mod TemplateTables
mod ReceiverTables
pub mod Shared
