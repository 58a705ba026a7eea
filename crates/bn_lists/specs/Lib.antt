pub mod Lists
pub mod Runs
pub mod Finite
pub mod Laws
