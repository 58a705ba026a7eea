pub mod ReachLemmas
pub mod LeastLemmas
pub mod LawLemmas
