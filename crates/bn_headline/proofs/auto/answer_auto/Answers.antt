use Rattle.std.proofs.Common.{[], sym, subst}
use Rattle.bn_reply_boards.specs.Opened.{IsMachineAsked, IsOpenedMachine}
use Rattle.bn_reply_boards.proofs.AnsweredLemmas.{answered_as, answered_reply}
use Rattle.bn_reply_boards.proofs.AskedLemmas.{machine_refused, machine_replies}
use Rattle.bn_headline.specs.AutoReply.{AutoReplies, FindReplies}
use Rattle.bn_headline.proofs.auto.answer_auto.Goals as goal

pub auto_symbols-requires : goal.auto_symbols-requires
auto_symbols-requires g c = (
  c.args.bytes.now,
  c.args.word.now,
  subst (IsMachineAsked c.args.bytes.now c.args.word.now c.in-Made.table c.in-Made.translated)
      (sym c.as_slice.ensures.value)
      (subst (IsOpenedMachine c.args.bytes.now c.args.word.now) c.in-Made.is c.in_ok-reply.ensures),
)

pub returns-in-Refused-clause-replied : goal.returns-in-Refused-clause-replied
returns-in-Refused-clause-replied g c =
    let reply = c.in-Refused.reply in
    (answered_reply (AutoReplies c.args.word.now c.args.bytes.now) reply (g.W.Watch.told c.args.watch.now)
    (machine_refused FindReplies c.args.bytes.now c.args.word.now reply.status reply.text.items []
    (subst (IsOpenedMachine c.args.bytes.now c.args.word.now) c.in-Refused.is c.in_ok-reply.ensures))).replied

pub returns-in-Made-clause-replied : goal.returns-in-Made-clause-replied
returns-in-Made-clause-replied g c =
    let t = c.in-Made.table in
    let m = c.in-Made.translated in
    let asked = subst (IsMachineAsked c.args.bytes.now c.args.word.now t m) (sym c.as_slice.ensures.value)
    (subst (IsOpenedMachine c.args.bytes.now c.args.word.now) c.in-Made.is c.in_ok-reply.ensures) in
    (answered_as (FindReplies t c.as_slice.result.now) (AutoReplies c.args.word.now c.args.bytes.now)
    (machine_replies FindReplies c.args.bytes.now c.args.word.now t m c.as_slice.result.now asked) c.auto_symbols.result
    (g.W.Watch.told c.args.watch.now)
    (g.W.Watch.told c.auto_symbols.new.watch) c.auto_symbols.ensures).replied

pub returns-in-Made-clause-interrupted : goal.returns-in-Made-clause-interrupted
returns-in-Made-clause-interrupted g c =
    let t = c.in-Made.table in
    let m = c.in-Made.translated in
    let asked = subst (IsMachineAsked c.args.bytes.now c.args.word.now t m) (sym c.as_slice.ensures.value)
    (subst (IsOpenedMachine c.args.bytes.now c.args.word.now) c.in-Made.is c.in_ok-reply.ensures) in
    (answered_as (FindReplies t c.as_slice.result.now) (AutoReplies c.args.word.now c.args.bytes.now)
    (machine_replies FindReplies c.args.bytes.now c.args.word.now t m c.as_slice.result.now asked) c.auto_symbols.result
    (g.W.Watch.told c.args.watch.now)
    (g.W.Watch.told c.auto_symbols.new.watch) c.auto_symbols.ensures).interrupted
