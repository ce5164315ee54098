pub mod Sums
pub mod Halves
pub mod Cells
pub mod Exact
pub mod Residues
pub mod Hashes
