pub mod NamedPorts
pub mod ExploringReply
pub mod BehaviourReply
pub mod CrossingsReply
pub mod Replying
pub mod Laws
