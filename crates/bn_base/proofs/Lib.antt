pub mod LineLemmas
pub mod NumberLemmas
pub mod Capped
pub mod CutLemmas
pub mod CutOrNot
