pub mod Group
pub mod Totals
pub mod Positions
pub mod Sheets
pub mod Words
pub mod Examples
pub mod Boths
pub mod Laws
