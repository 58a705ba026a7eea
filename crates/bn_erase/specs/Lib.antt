pub mod Recoded
pub mod Joint
pub mod Made
pub mod Numbered
pub mod Printed
pub mod Printable
pub mod Existence
pub mod Laws
