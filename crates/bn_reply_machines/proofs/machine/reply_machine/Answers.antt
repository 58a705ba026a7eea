use Rattle.std.proofs.Common.{subst}
use Rattle.bn_reply.specs.Opened.{IsOpenedTable}
use Rattle.bn_reply.specs.TableReply.{JudgedReplies, WordReplies}
use Rattle.bn_reply.proofs.ReplyLemmas.{read_replies}
use Rattle.bn_reply_machines.specs.MachineReply.{TellsMachineRun}
use Rattle.bn_reply_machines.proofs.machine.reply_machine.Goals as goal

pub returns-in-Read : goal.returns-in-Read
returns-in-Read c =
    let reads = subst (IsOpenedTable c.args.bytes.now) c.in-Read.is c.in_ok-reply.ensures in
    read_replies (λ t. JudgedReplies (WordReplies (TellsMachineRun t c.args.steps) t c.args.word.now) t)
    c.args.bytes.now c.in-Read.table c.run_table.result reads
    c.run_table.ensures
