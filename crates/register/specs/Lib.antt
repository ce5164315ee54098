pub mod Faults
pub mod Held
pub mod Judged
