pub mod RotaryLemmas
pub mod StepLemmas
pub mod AdmittedLemmas
pub mod RunLemmas
pub mod ListingLemmas
pub mod MadeLemmas
