pub mod ExtentLemmas
pub mod LeastLemmas
pub mod LawLemmas
