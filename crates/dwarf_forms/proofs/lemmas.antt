-- Lemmas for the crates above: laws of the definitions of `specs/`.
pub mod Values
