pub mod Claims
pub mod Faults
pub mod Made
