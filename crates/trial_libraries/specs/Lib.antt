pub mod Limits
pub mod Bytes
pub mod Symbols
pub mod Abbreviations
pub mod Units
pub mod Libraries
