pub mod Fields
pub mod Reports
pub mod Stages
pub mod Starts
