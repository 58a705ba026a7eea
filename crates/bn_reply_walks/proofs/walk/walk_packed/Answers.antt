use Rattle.bn_reply_walks.proofs.ReplyLemmas.{script_faulty, script_replied}
use Rattle.bn_reply_walks.proofs.walk.walk_packed.Goals as goal

pub returns-in-Ok : goal.returns-in-Ok
returns-in-Ok c =
    script_replied c.args.packed c.args.script.now c.in-Ok.script c.in-Ok.ensures.read c.play_script.result
    c.play_script.ensures.status c.play_script.ensures.text

pub returns-in-Err : goal.returns-in-Err
returns-in-Err c =
    script_faulty c.args.packed c.args.script.now c.in-Err.refusal c.in-Err.ensures.refused c.refuse_script.result
    c.refuse_script.ensures
