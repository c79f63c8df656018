mod FilesLemmas
mod Loops
mod ReadNumbers
pub mod lemmas
