pub mod Texts
pub mod ranges
