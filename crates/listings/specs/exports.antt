pub mod Command
pub mod ExportLines
