mod NameLemmas
mod MarkLemmas
mod WayLemmas
mod HandleLemmas
mod HoldLemmas
mod UnnamedLemmas
mod FlagLemmas
mod WeightLemmas
mod CrowdLemmas
pub mod lemmas
