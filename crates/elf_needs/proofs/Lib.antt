pub mod Counting
pub mod KeptEntries
pub mod Ranges
pub mod ReadNeeds
pub mod OfFile
pub mod NeedLaws
