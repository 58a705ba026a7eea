use Rattle.bn_reply_circuits.specs.RealiseReply.{RealiseReplies}
use Rattle.bn_reply_circuits.proofs.RealiseLemmas.{machine_will, refused_replies}
use Rattle.bn_reply_circuits.proofs.UnwrittenLemmas.{line_will}
use Rattle.bn_reply_circuits.proofs.realise.bank_of.Goals as goal

pub returns-in-Ok : goal.returns-in-Ok
returns-in-Ok c = machine_will c.args.state c.args.line c.args.bytes.now c.in-Ok.rsm c.bank_in.result c.in-Ok.ensures.ok
    c.bank_in.ensures

pub returns-in_ok-reply-in-Err : goal.returns-in_ok-reply-in-Err
returns-in_ok-reply-in-Err c =
    let reply = c.in_ok-reply-in-Err.reply in
    line_will (RealiseReplies c.args.state c.args.line c.args.bytes.now) reply
    (refused_replies c.args.state c.args.line c.args.bytes.now c.in-Err.refusal reply.status reply.text.items
    c.in-Err.ensures.refused c.in_ok-reply-in-Err.ensures)
