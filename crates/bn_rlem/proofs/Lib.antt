pub mod PermutationLemmas
pub mod ElementLemmas
