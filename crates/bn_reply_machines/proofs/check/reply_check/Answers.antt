use Rattle.std.proofs.Common.{subst}
use Rattle.bn_reply.specs.Answering.{IsDone}
use Rattle.bn_reply.specs.Opened.{IsOpenedTable}
use Rattle.bn_reply.specs.TableReply.{JudgedReplies}
use Rattle.bn_reply.proofs.ReplyLemmas.{read_replies}
use Rattle.bn_reply_machines.specs.CheckReply.{standard_line}
use Rattle.bn_reply_machines.proofs.check.reply_check.Goals as goal

pub returns-in-Read : goal.returns-in-Read
returns-in-Read c =
    let reads = subst (IsOpenedTable c.args.bytes.now) c.in-Read.is c.in_ok-reply.ensures in
    read_replies (λ t. JudgedReplies (IsDone (standard_line t.machine)) t) c.args.bytes.now c.in-Read.table
    c.check_table.result reads c.check_table.ensures
