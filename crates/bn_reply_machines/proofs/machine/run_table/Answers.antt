use Rattle.std.proofs.Common.{subst}
use Rattle.bn_reply.specs.Opened.{IsJudged}
use Rattle.bn_reply.specs.TableReply.{WordReplies}
use Rattle.bn_reply.proofs.ReplyLemmas.{fit_replies}
use Rattle.bn_reply_machines.specs.MachineReply.{TellsMachineRun}
use Rattle.bn_reply_machines.proofs.machine.run_table.Goals as goal

pub returns-in-Standard : goal.returns-in-Standard
returns-in-Standard c =
    let judged = subst (IsJudged c.args.table.now) c.in-Standard.is c.in_ok-reply.ensures.judged in
    fit_replies (WordReplies (TellsMachineRun c.args.table.now c.args.steps) c.args.table.now c.args.word.now)
    c.args.table.now c.reply_word.result judged.1
    c.reply_word.ensures
