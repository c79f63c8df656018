-- What crates above may use of proofs: laws of the definitions of `specs/`.
pub mod ParsedArguments
