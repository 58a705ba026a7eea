pub mod LookText
pub mod Looking
pub mod LookReply
pub mod PlayReply
pub mod Built
pub mod Kept
pub mod Laws
