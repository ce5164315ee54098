pub mod Codes
pub mod Entities
pub mod Faults
pub mod Files
pub mod Names
