pub mod Lacking
pub mod Needed
pub mod NeededFiles
pub mod Needs
pub mod NewNeeds
pub mod Plain
pub mod Seen
pub mod Versions
