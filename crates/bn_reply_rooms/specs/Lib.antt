pub mod RoomReply
pub mod RoomRun
pub mod Laws
