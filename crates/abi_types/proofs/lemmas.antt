-- What crates above may use of proofs: laws of the definitions of `specs/`.
pub mod ByValue
pub mod Kinds
pub mod Nodes
pub mod Numbers
pub mod Ranges
pub mod Records
pub mod Shaped
