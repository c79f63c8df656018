pub mod Lines
pub mod Certificates
pub mod Searches
pub mod LineLists
