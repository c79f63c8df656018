pub mod Summaries
pub mod Trials
