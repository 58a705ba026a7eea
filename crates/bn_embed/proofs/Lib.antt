pub mod CallLemmas
pub mod WordsLemmas
