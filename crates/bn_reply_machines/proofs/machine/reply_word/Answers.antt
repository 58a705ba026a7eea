use Rattle.std.proofs.Common.{subst}
use Rattle.bn_machine.specs.Machine.{Program}
use Rattle.bn_machine.specs.Run.{HasEnding}
use Rattle.bn_reply.specs.Opened.{IsOpenedWord}
use Rattle.bn_reply.proofs.ReplyLemmas.{spelled_replies}
use Rattle.bn_reply.proofs.SettledLemmas.{foreign_replies}
use Rattle.bn_reply_machines.specs.MachineReply.{TellsMachineRun}
use Rattle.bn_reply_machines.specs.MachineRun.{ending_of}
use Rattle.bn_reply_machines.proofs.FitLemmas.{ending_fits}
use Rattle.bn_reply_machines.proofs.MachineLemmas.{ended_tells}
use Rattle.bn_reply_machines.proofs.machine.reply_word.Goals as goal

pub returns-in-Refused : goal.returns-in-Refused
returns-in-Refused c =
    let refused = subst (IsOpenedWord c.args.table.now c.args.word.now) c.in-Refused.is c.in_ok-reply.ensures in
    foreign_replies (TellsMachineRun c.args.table.now c.args.steps) c.args.table.now c.args.word.now c.in-Refused.reply
    refused

pub reply_ended-requires : goal.reply_ended-requires
reply_ended-requires c =
    let symbols = c.in-Symbols.symbols.items in
    let spelled = subst (IsOpenedWord c.args.table.now c.args.word.now) c.in-Symbols.is c.in_ok-reply.ensures in
    let e = c.in_ok-ended-in-Symbols.ended in
    let run = subst (λ xs. HasEnding c.machine.result.now xs c.args.steps e.steps
    (ending_of e.ending)) c.as_slice.ensures.value c.in_ok-ended-in-Symbols.ensures in
    let ending : HasEnding c.args.table.now.machine symbols c.args.steps e.steps (ending_of e.ending) = subst
    (λ (p : Program). HasEnding p symbols c.args.steps e.steps (ending_of e.ending)) c.machine.ensures.value run in
    ending_fits c.args.table.now c.args.word.now symbols c.args.steps e.steps e.ending c.machine.ensures.valid spelled
    ending

pub returns-in_ok-ended-in-Symbols : goal.returns-in_ok-ended-in-Symbols
returns-in_ok-ended-in-Symbols c =
    let t = c.args.table.now in
    let symbols = c.in-Symbols.symbols.items in
    let spelled = subst (IsOpenedWord t c.args.word.now) c.in-Symbols.is c.in_ok-reply.ensures in
    let e = c.in_ok-ended-in-Symbols.ended in
    let run = subst (λ xs. HasEnding c.machine.result.now xs c.args.steps e.steps
    (ending_of e.ending)) c.as_slice.ensures.value c.in_ok-ended-in-Symbols.ensures in
    let ending = subst (λ (p : Program). HasEnding p symbols c.args.steps e.steps (ending_of e.ending))
    c.machine.ensures.value run in
    spelled_replies (TellsMachineRun t c.args.steps) t c.args.word.now symbols c.reply_ended.result spelled
    (ended_tells t c.args.steps symbols e.steps (ending_of e.ending) c.reply_ended.result ending
    c.reply_ended.ensures.status c.reply_ended.ensures.text)
