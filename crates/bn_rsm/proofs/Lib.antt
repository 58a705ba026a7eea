pub mod ListingLemmas
pub mod NumberLemmas
pub mod SoundLemmas
pub mod RunCostLemmas
pub mod CostLemmas
mod Decimals
mod Passing
mod Drafting
mod Coming
pub mod ReadingLaws
pub mod LawLemmas
pub mod PairedLemmas
