pub mod AbbrevsLemmas
pub mod LeastBytesLemmas
pub mod PlacesLemmas
pub mod StandingLemmas
