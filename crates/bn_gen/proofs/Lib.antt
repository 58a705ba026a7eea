pub mod Cases
pub mod FormLemmas
pub mod MachineLemmas
pub mod TableLemmas
pub mod LawLemmas
