mod file_lemmas
pub mod lemmas
mod symbols_lemmas
mod versions_lemmas
