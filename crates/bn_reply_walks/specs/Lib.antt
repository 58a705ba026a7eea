pub mod WalkView
pub mod Refused
pub mod WalkReply
pub mod Walking
pub mod Laws
