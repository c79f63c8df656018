-- What crates above may use of proofs: laws of the definitions of `specs/`.
pub mod Asked
pub mod Lists
pub mod Parts
pub mod Places
pub mod Steps
pub mod Triples
pub mod Truths
