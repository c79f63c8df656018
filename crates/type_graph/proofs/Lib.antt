mod CountLemmas
mod FlattenLemmas
mod FormLemmas
mod GraphLemmas
mod JudgeLemmas
mod LabelLemmas
mod LetterLemmas
mod LimitLemmas
mod ListLemmas
mod MemberLemmas
mod NodeCounts
mod NodeLemmas
mod SharingLemmas
mod ViewLemmas
pub mod lemmas
