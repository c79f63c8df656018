pub mod Laws
pub mod Members
pub mod Rows
pub mod Searches
pub mod Structures
pub mod Sweeps
pub mod Texts
