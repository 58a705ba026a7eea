pub mod Permutations
pub mod Elements
pub mod Laws
