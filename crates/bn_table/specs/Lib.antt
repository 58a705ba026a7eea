pub mod Draft
pub mod Entry
pub mod Faults
pub mod Fields
pub mod Rows
pub mod Reading
pub mod Laws
