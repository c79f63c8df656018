mod CommandLemmas
mod LineLemmas
mod NameLemmas
mod NearLemmas
mod ProgramLemmas
mod RuleLineLemmas
