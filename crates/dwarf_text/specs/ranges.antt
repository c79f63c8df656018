pub mod RangeLists
pub mod EntrySteps
pub mod FirstBytes
