pub mod Quadruples
pub mod Overlap
pub mod Kept
pub mod Names
pub mod Calls
pub mod Search
pub mod Index
pub mod Laws
