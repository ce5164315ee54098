pub mod Commands
pub mod Slots
