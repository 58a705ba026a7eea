pub mod Mirror
pub mod Listing
pub mod Laws
