pub mod RowLemmas
pub mod CountLemmas
pub mod MadeLemmas
pub mod CellNumberLemmas
