-- What crates above may use of proofs.
pub mod Names
