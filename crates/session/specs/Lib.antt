pub mod Held
pub mod Refusals
pub mod Session
pub mod SessionLaw
