pub mod Counts
pub mod Large
pub mod Limits
pub mod Nodes
pub mod Placed
pub mod Sharing
pub mod Spending
