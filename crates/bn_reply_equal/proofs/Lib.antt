pub mod SecondLemmas
pub mod ReadLemmas
pub mod SettledLemmas
pub mod ReplyLemmas
