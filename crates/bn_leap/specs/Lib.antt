pub mod Leaps
pub mod Laws
pub mod Inside
pub mod Entries
