pub mod Definitions
pub mod Names
pub mod Plain
pub mod Versions
