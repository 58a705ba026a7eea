pub mod ShownLemmas
pub mod BuiltLemmas
pub mod SettledLemmas
pub mod ReplyLemmas
pub mod MachineLemmas
