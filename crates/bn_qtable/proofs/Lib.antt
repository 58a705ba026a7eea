pub mod RowsLemmas
pub mod Passing
pub mod Growing
pub mod Drafting
pub mod ReadingLaws
pub mod Writing
pub mod Gathering
pub mod LawLemmas
