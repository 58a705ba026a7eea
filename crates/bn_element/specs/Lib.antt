pub mod Rotary
pub mod Inverse
pub mod Tables
pub mod Reversible
