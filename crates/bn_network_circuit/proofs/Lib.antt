pub mod SoundLemmas
pub mod PartLemmas
pub mod BarLemmas
pub mod NetworkLemmas
pub mod StartLemmas
