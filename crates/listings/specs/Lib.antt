pub mod Listed
pub mod entries
pub mod exports
