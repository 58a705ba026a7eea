pub mod BankCrossingLemmas
pub mod BankEndsLemmas
pub mod BankListsLemmas
pub mod BankWiresLemmas
pub mod WireLemmas
pub mod StartLemmas
pub mod LawLemmas
