mod EntryLemmas
mod FrontLemmas
mod ItemLemmas
mod LawLemmas
mod ListLemmas
mod NameLemmas
mod StandingLemmas
