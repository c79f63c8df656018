pub mod Coordinates
pub mod Known
pub mod Made
pub mod Plain
