pub mod Faults
pub mod Lines
pub mod Reads
pub mod Reports
