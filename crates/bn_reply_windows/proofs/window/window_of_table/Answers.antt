use Rattle.std.proofs.Common.{subst}
use Rattle.bn_reply.specs.Opened.{IsJudged}
use Rattle.bn_reply.specs.TableReply.{WordReplies}
use Rattle.bn_reply.proofs.ReplyLemmas.{fit_replies}
use Rattle.bn_reply_windows.specs.WindowReply.{TellsWindow}
use Rattle.bn_reply_windows.proofs.window.window_of_table.Goals as goal

pub returns-in-Standard : goal.returns-in-Standard
returns-in-Standard c =
    let judged = subst (IsJudged c.args.table.now) c.in-Standard.is c.in_ok-reply.ensures.judged in
    fit_replies (WordReplies (TellsWindow c.args.table.now c.args.most_steps) c.args.table.now c.args.word.now)
    c.args.table.now c.window_of_word.result judged.1
    c.window_of_word.ensures
