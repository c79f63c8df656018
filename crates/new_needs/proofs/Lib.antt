pub mod AllNeeds
pub mod ReadLemmas
pub mod SeenLemmas
pub mod UsedEntries
pub mod lemmas
