pub mod GnuNeeds
pub mod Indexes
pub mod Needs
pub mod Plain
