pub mod Entries
pub mod Saying
pub mod Lines
pub mod Faults
pub mod Networks
pub mod Drafting
pub mod Laws
