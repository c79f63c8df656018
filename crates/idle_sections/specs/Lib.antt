pub mod Idle
pub mod Names
