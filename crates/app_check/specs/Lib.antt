pub mod Imports
pub mod Links
pub mod Plain
pub mod Used
