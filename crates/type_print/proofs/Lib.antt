mod FindLemmas
mod GapRows
mod HeldBits
mod JoinLemmas
mod LawLemmas
mod ListLemmas
mod OrderLemmas
mod OverlapLemmas
mod StructureLemmas
mod SweepLemmas
pub mod lemmas
