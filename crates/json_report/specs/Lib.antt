pub mod Breaks
pub mod Strings
