use Rattle.std.proofs.Common.{subst}
use Rattle.bn_reply.specs.Answering.{IsDone}
use Rattle.bn_reply.specs.Opened.{IsOpenedTable}
use Rattle.bn_reply.specs.TableReply.{JudgedReplies}
use Rattle.bn_reply.proofs.ReplyLemmas.{read_replies}
use Rattle.bn_reply_machines.specs.BennettReply.{bennett_text}
use Rattle.bn_reply_machines.proofs.bennett.reply_bennett.Goals as goal

pub returns-in-Read : goal.returns-in-Read
returns-in-Read c =
    let reads = subst (IsOpenedTable c.args.bytes.now) c.in-Read.is c.in_ok-reply.ensures in
    read_replies (λ t. JudgedReplies (IsDone (bennett_text t)) t) c.args.bytes.now c.in-Read.table
    c.translate_table.result reads c.translate_table.ensures
