use Rattle.bn_rooms.proofs.LawLemmas.{larger_rooms_end_alike, least_room_exists, least_room_is_one}
use Rattle.bn_rooms.proofs.LawLemmas.{left_of_start_has_no_room, room_outcome_exists, room_outcome_is_one}
use Rattle.bn_rooms.proofs.LawLemmas.{smaller_rooms_are_too_small}
use Rattle.bn_rooms.proofs.laws.rooms_laws.Goals as goal

pub returns : goal.returns
returns c = record {
  least_room_exists = least_room_exists;
  least_room_is_one = least_room_is_one;
  larger_rooms_end_alike = larger_rooms_end_alike;
  smaller_rooms_are_too_small = smaller_rooms_are_too_small;
  left_of_start_has_no_room = left_of_start_has_no_room;
  room_outcome_exists = room_outcome_exists;
  room_outcome_is_one = room_outcome_is_one;
}
