-- What crates above may use of proofs: laws of the definitions of `specs/`, and of lists.
pub mod Mapped
