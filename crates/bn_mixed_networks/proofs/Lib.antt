pub mod PartLemmas
pub mod PlaceLemmas
pub mod MovedLemmas
pub mod WireLemmas
pub mod LawLemmas
