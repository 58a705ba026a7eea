use Rattle.bn_reply_walks.proofs.ReplyLemmas.{walk_refused, walk_replied}
use Rattle.bn_reply_walks.proofs.walk.walk_input.Goals as goal

pub returns-in-Ok : goal.returns-in-Ok
returns-in-Ok c =
    walk_replied c.args.bytes.now c.args.script.now c.in-Ok.read c.in-Ok.ensures.spelled c.walk_packed.result
    c.walk_packed.ensures

pub returns-in-Err : goal.returns-in-Err
returns-in-Err c =
    walk_refused c.args.bytes.now c.args.script.now c.in-Err.refusal c.in-Err.ensures.refused c.refuse_config.result
    c.refuse_config.ensures.status c.refuse_config.ensures.text
