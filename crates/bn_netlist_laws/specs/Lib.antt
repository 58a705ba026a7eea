pub mod Sentences
pub mod Reading
pub mod Saying
pub mod Columns
pub mod Spelling
pub mod Faults
pub mod Laws
