pub mod Ends
pub mod NetworkLaws
pub mod Commands
pub mod Departures
pub mod Stops
pub mod StopLaws
pub mod Laws
