pub mod PairLemmas
pub mod JudgedLemmas
pub mod SettledLemmas
pub mod TextLemmas
pub mod RunLemmas
pub mod WordLemmas
pub mod StepLemmas
pub mod AnswerLemmas
mod OpenedLemmas
mod SecondLemmas
pub mod BothLemmas
pub mod PrintedRowLemmas
pub mod PrintedSizeLemmas
pub mod InverseSizeLemmas
