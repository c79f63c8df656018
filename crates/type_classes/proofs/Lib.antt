mod AlikeLemmas
mod BlockLemmas
mod BlockCuts
mod BlockSplits
mod ClassLemmas
mod EdgeLemmas
mod Layouts
mod LookLemmas
mod NumberLemmas
mod RefineLemmas
mod RepLemmas
mod SameLemmas
mod ShapeLemmas
mod SpelledLists
mod SpelledPlaces
mod SpellingLemmas
mod SplitLemmas
pub mod lemmas
