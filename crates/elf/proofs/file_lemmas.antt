pub mod ElfLemmas
pub mod Faultless
pub mod NameLemmas
