pub mod Number
pub mod Line
pub mod LentLine
pub mod Cuts
pub mod CutLaws
pub mod Laws
