-- The laws of this crate, a named field each. `Laws` is the contract of `reply_rooms_laws`.
use Rattle.bn_reply_rooms.specs.RoomReply.{RoomIsSettled}

pub record Laws : Type 0 where
  -- `room` has exactly one answer to all words, numbers of steps and bytes, in both of its forms.
  pub room_has_one_reply : RoomIsSettled
