pub mod Second
pub mod EqualReply
pub mod Replied
pub mod Laws
