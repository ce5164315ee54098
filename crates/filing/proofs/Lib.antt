pub mod Adding
pub mod NameParts
