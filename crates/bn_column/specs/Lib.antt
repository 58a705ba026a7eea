pub mod Columns
pub mod Nets
pub mod Laws
