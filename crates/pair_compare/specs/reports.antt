pub mod Findings
pub mod PathTexts
pub mod Reports
pub mod ExportRows
pub mod TypeFindings
pub mod Keys
pub mod Readable
pub mod Rooms
