use Rattle.std.proofs.Common.{length}
use Rattle.bn_reply_circuits.proofs.FarmAnswerLemmas.{events_on, farm_played, farm_refused}
use Rattle.bn_reply_circuits.proofs.farm.reply_farm.Goals as goal

pub play_farm-requires : goal.play_farm-requires
play_farm-requires c = events_on (length c.in-Ok.farm) c.in-Ok.schedule c.in-Ok.ensures.read.schedule.lawful

pub returns-in-Ok : goal.returns-in-Ok
returns-in-Ok c = farm_played c.args.bytes.now c.in-Ok.farm c.in-Ok.schedule c.play_farm.result c.in-Ok.ensures.read
    c.play_farm.ensures

pub returns-in-Err : goal.returns-in-Err
returns-in-Err c = farm_refused c.args.bytes.now c.in-Err.refusal c.refuse_farm.result c.in-Err.ensures.refused
    c.refuse_farm.ensures
