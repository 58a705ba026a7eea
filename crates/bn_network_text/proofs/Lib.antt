pub mod AimLemmas
pub mod PageLemmas
pub mod WireLemmas
pub mod FaultLemmas
pub mod DrawnLemmas
pub mod LawLemmas
