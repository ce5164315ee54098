pub mod Hexadecimals
pub mod Puts
pub mod Reports
pub mod Writes
