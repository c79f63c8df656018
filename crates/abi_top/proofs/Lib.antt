mod Alike
mod OfRead
mod Printed
mod Rows
mod Single
pub mod lemmas
