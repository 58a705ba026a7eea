pub mod Answers
pub mod Differences
pub mod Classes
pub mod Rows
pub mod Meetings
pub mod Search
pub mod Comparisons
pub mod Laws
