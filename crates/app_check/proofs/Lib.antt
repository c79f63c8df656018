pub mod AppFault
pub mod ImportsRead
pub mod LimitLemmas
pub mod LinksLemmas
pub mod NarrowedExports
pub mod NeededFiles
pub mod Places
