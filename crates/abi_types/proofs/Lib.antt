mod EntryLemmas
mod KeyLemmas
mod LeafLemmas
mod LikeLemmas
mod LookupLemmas
mod NameLemmas
mod ShapedLemmas
mod VersionLemmas
mod WalkLemmas
pub mod lemmas
