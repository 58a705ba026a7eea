pub mod ApartLemmas
pub mod ListLemmas
pub mod LeastLemmas
pub mod MemberLemmas
pub mod RunsLemmas
pub mod PairingLemmas
pub mod FiniteLemmas
