pub mod Flattened
pub mod BoardWires
pub mod Locations
pub mod Starts
pub mod Moments
pub mod Entered
