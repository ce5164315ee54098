pub mod Deeds
pub mod FileCounts
pub mod Runs
pub mod Survivors
pub mod Tables
pub mod Tidy
pub mod Totals
