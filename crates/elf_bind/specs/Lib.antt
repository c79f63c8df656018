pub mod Binding
pub mod Exports
pub mod NameOrder
pub mod Named
pub mod EarlierExports
