pub mod file
pub mod sections
pub mod symbols
pub mod versions
