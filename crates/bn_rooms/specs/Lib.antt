pub mod OneSided
pub mod Reach
pub mod LeastRoom
pub mod RoomOutcome
pub mod Laws
