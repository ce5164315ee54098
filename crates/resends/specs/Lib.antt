pub mod Marks
pub mod Resends
