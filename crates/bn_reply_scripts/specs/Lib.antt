pub mod ScriptReply
pub mod Refusing
