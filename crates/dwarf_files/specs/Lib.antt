pub mod Heads
pub mod Lists
pub mod Names
pub mod Plain
pub mod Programs
pub mod Standing
pub mod Steps
pub mod Tables
