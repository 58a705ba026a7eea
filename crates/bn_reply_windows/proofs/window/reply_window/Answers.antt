use Rattle.std.proofs.Common.{subst}
use Rattle.bn_reply.specs.Opened.{IsOpenedTable}
use Rattle.bn_reply.specs.TableReply.{JudgedReplies, WordReplies}
use Rattle.bn_reply.proofs.ReplyLemmas.{read_replies}
use Rattle.bn_reply_windows.specs.WindowReply.{TellsWindow}
use Rattle.bn_reply_windows.proofs.window.reply_window.Goals as goal

pub returns-in-Read : goal.returns-in-Read
returns-in-Read c =
    let reads = subst (IsOpenedTable c.args.bytes.now) c.in-Read.is c.in_ok-reply.ensures in
    read_replies (λ t. JudgedReplies (WordReplies (TellsWindow t c.args.most_steps) t c.args.word.now) t)
    c.args.bytes.now c.in-Read.table c.window_of_table.result reads
    c.window_of_table.ensures
