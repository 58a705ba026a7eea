pub mod Extents
pub mod LeastWindow
pub mod Formula
pub mod Laws
