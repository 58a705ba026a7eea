pub mod Pairs
pub mod EraseReply
pub mod EraseRun
pub mod Opened
pub mod PrintedSizes
pub mod Laws
