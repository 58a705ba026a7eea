pub mod CrossingLemmas
pub mod LadderLemmas
pub mod NetLemmas
pub mod Rungs
pub mod CrossLemmas
pub mod RestLemmas
pub mod ExitLemmas
