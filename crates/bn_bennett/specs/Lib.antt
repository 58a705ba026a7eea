pub mod Made
pub mod Translation
pub mod Draft
pub mod Meaning
pub mod Printed
pub mod Runs
pub mod Laws
pub mod InPart
