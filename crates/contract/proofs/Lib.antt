pub mod Limits
pub mod NameTexts
pub mod Readings
pub mod Searches
pub mod Tables
