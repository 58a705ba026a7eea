pub mod ViewLemmas
pub mod SettledLemmas
pub mod ReplyLemmas
