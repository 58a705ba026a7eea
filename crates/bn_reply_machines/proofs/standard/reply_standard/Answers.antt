use Rattle.std.proofs.Common.{subst}
use Rattle.bn_reply.specs.Opened.{IsOpenedTable}
use Rattle.bn_reply.proofs.ReplyLemmas.{read_replies}
use Rattle.bn_reply_machines.specs.StandardReply.{TellsStandard}
use Rattle.bn_reply_machines.proofs.standard.reply_standard.Goals as goal

pub returns-in-Read : goal.returns-in-Read
returns-in-Read c =
    let reads = subst (IsOpenedTable c.args.bytes.now) c.in-Read.is c.in_ok-reply.ensures in
    read_replies TellsStandard c.args.bytes.now c.in-Read.table c.standardise_table.result reads
    c.standardise_table.ensures
