pub mod Lists
pub mod Wires
pub mod Plans
pub mod Assigned
pub mod Sweeping
pub mod Laws
