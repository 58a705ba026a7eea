use Rattle.bn_room_laws.proofs.LawLemmas.{drives_end_in_least_rooms, drives_leave_smaller_rooms}
use Rattle.bn_room_laws.proofs.LawLemmas.{drives_leave_without_room, rooms_are_least}
use Rattle.bn_room_laws.proofs.laws.room_laws.Goals as goal

pub returns : goal.returns
returns c = record {
  rooms_are_least = rooms_are_least;
  drives_end_in_least_rooms = drives_end_in_least_rooms;
  drives_leave_smaller_rooms = drives_leave_smaller_rooms;
  drives_leave_without_room = drives_leave_without_room;
}
