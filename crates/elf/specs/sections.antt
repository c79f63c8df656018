pub mod DebugSections
