pub mod KeyOrder
pub mod ByKey
pub mod Lives
pub mod Lookups
pub mod Plain
