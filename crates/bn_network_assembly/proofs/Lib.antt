pub mod SymbolLemmas
pub mod WireLemmas
pub mod StartLemmas
pub mod FaultLemmas
pub mod JoinLemmas
pub mod WordLemmas
