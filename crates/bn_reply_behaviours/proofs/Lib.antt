pub mod AlikeLemmas
pub mod NameLemmas
pub mod SettledLemmas
pub mod ReadingLemmas
pub mod AnswerLemmas
pub mod TextLemmas
