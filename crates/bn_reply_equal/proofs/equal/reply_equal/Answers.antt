use Rattle.bn_reply_equal.proofs.ReplyLemmas.{cut_replies}
use Rattle.bn_reply_equal.proofs.equal.reply_equal.Goals as goal

pub returns-in-Some : goal.returns-in-Some
returns-in-Some c =
    cut_replies c.args.state c.args.other c.args.bytes.now c.in-Some.first.now c.in-Some.second.now
    c.reply_tables.result c.in-Some.ensures c.reply_tables.ensures
