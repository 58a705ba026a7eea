pub mod ControlLaws
pub mod Cells
pub mod Controls
pub mod Networks
pub mod Starts
pub mod Moments
pub mod Limits
pub mod Laws
