pub mod HeadLemmas
mod InputLemmas
mod OtherMembers
