pub mod Modules
pub mod Reversible
pub mod Codes
pub mod WireLists
pub mod Starting
pub mod Rows
pub mod Assembled
pub mod Widening
