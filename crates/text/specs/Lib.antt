pub mod Bytes
pub mod Cuts
pub mod Forms
pub mod Listings
pub mod Rows
pub mod Texts
