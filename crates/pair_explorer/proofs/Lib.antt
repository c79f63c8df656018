mod Bounds
mod Counting
mod Entered
mod Growth
mod Keyed
mod Leading
mod Loop
mod Order
mod Representatives
mod Scoped
mod Sources
mod Spelled
mod Spent
mod Triples
mod Verdict
mod Visited
mod Walked
pub mod lemmas
