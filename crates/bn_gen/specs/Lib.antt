pub mod Increments
pub mod Text
pub mod Laws
