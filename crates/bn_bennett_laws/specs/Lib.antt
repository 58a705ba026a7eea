pub mod List
pub mod Names
pub mod Steps
pub mod Renamed
pub mod Stages
pub mod Laws
