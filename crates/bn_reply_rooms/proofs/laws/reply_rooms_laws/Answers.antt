use Rattle.bn_reply_rooms.proofs.RoomLemmas.{room_settled}
use Rattle.bn_reply_rooms.proofs.laws.reply_rooms_laws.Goals as goal

pub returns : goal.returns
returns c = record { room_has_one_reply = room_settled }
