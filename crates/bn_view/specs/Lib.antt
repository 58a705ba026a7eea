pub mod Shown
pub mod Modules
pub mod Viewed
pub mod Laws
