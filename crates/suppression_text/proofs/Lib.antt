mod LineLemmas
mod PatternLemmas
mod SectionLemmas
mod ReadingLemmas
mod FirstLemmas
pub mod lemmas
mod ClassLemmas
