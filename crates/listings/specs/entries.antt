pub mod Command
pub mod EntryLines
