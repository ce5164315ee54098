pub mod ContractList
pub mod Faults
pub mod Held
pub mod Styles
