-- What crates above may use of proofs: laws of the definitions of `specs/`, of lists, and of cases.
pub mod Bools
pub mod Budgets
pub mod Cases
pub mod Contained
pub mod Filtered
pub mod Leb
pub mod Lists
pub mod Numbers
pub mod Options
pub mod Orders
pub mod Outcomes
pub mod Places
pub mod Ranges
pub mod Runs
pub mod Sorts
