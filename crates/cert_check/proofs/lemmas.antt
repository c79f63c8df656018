-- What crates above may use of proofs: laws of the definitions of `specs/`.
pub mod Exports
pub mod Lines
pub mod OneList
pub mod Roots
pub mod Unmarked
