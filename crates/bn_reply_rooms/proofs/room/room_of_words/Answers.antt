use Rattle.bn_reply_rooms.specs.RoomReply.{TellsRoom}
use Rattle.bn_reply_rooms.proofs.RoomLemmas.{crowded_answered}
use Rattle.bn_reply_rooms.proofs.room.room_of_words.Goals as goal

pub returns-in-Some : goal.returns-in-Some
returns-in-Some c =
    let w = c.args.words.now in
    crowded_answered (TellsRoom c.args.machine.now c.args.most_steps w.one.now w.two.now w.three.now)
    c.args.machine.now c.in-Some.crowded.tape c.in-Some.crowded.symbols c.in-Some.ensures c.too_crowded.result
    c.too_crowded.ensures.status c.too_crowded.ensures.text
