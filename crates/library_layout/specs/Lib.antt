pub mod Command
pub mod Covers
pub mod Layouts
pub mod Limits
pub mod Near
pub mod Structures
