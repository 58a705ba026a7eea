pub mod Realised
pub mod Soundness
pub mod Laws
