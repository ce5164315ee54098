pub mod AnyRoom
pub mod Giving
pub mod InputLines
pub mod Measures
pub mod SessionFiles
