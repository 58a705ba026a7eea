pub mod Renumbering
pub mod Laws
