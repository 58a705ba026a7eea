pub mod Limits
pub mod Rules
pub mod Numbering
pub mod Standardised
pub mod Refusals
pub mod Loose
pub mod Printed
pub mod Laws
