pub mod Buffers
pub mod Drafts
pub mod Examples
pub mod Faults
pub mod Lines
pub mod Positions
