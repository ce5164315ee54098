pub mod Errors
pub mod Lines
pub mod Marking
pub mod Noting
pub mod Resending
