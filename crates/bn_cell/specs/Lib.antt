pub mod Sizes
pub mod Laws
pub mod Reversible
pub mod Rows
