mod FormLemmas
pub mod lemmas
mod abbreviations_lemmas
