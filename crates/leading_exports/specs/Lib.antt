pub mod Arrows
pub mod Drawing
pub mod Leading
pub mod Numbers
pub mod Walks
