pub mod ReadBefore
pub mod Versioned
pub mod VersionLaws
