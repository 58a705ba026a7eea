-- A refusal is told as it comes.
use Rattle.std.proofs.Common.{refl, []}
use Rattle.std.proofs.lemmas.Result.{IfOk-weaker}
use Rattle.bn_reply_machines.specs.StandardReply.{IsRefusedReply, TellsStandard, refused}
use Rattle.bn_reply_machines.proofs.standard.standardise_table.Goals as goal

pub returns-in-Err : goal.returns-in-Err
returns-in-Err c =
    let refusal = c.in-Err.refusal in
    IfOk-weaker c.refused_reply.result (IsRefusedReply refusal)
    (λ r. TellsStandard c.args.table.now r.status r.text.items [])
    (λ r h. refused refusal c.in-Err.ensures.refused h.said h.status_is h.text_is refl) c.refused_reply.ensures
