pub mod Book
pub mod Cases
pub mod Edges
pub mod FileLaws
pub mod Laws
pub mod Totals
