pub mod AnyLemmas
pub mod ChainLemmas
pub mod DefinitionLemmas
pub mod LawLemmas
mod PackingLemmas
pub mod WalkLemmas
