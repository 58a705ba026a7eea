pub mod Opened
pub mod Shown
pub mod Running
pub mod GenerateReply
pub mod GenerateLaws
pub mod LineNames
pub mod Laws
