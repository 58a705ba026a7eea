pub mod NameLemmas
pub mod Alike
pub mod CallByCall
pub mod Counting
pub mod Forms
pub mod Growing
pub mod Machines
pub mod Once
pub mod Pieces
pub mod Printable
pub mod SameNames
pub mod Tables
pub mod Texts
pub mod ThereLemmas
mod InPartLemmas
pub mod LawLemmas
