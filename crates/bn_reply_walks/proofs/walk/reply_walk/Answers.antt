use Rattle.bn_reply_scripts.proofs.ScriptLemmas.{cut_replies}
use Rattle.bn_reply_walks.specs.WalkReply.{WalkTextReplies}
use Rattle.bn_reply_walks.proofs.walk.reply_walk.Goals as goal

pub returns-in-Some : goal.returns-in-Some
returns-in-Some c =
    cut_replies WalkTextReplies c.args.bytes.now c.in-Some.text.now c.in-Some.script.now c.in-Some.ensures
    c.walk_input.result c.walk_input.ensures
