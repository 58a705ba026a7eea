use Rattle.std.proofs.Common.{sym, subst, Ok}
use Rattle.bn_reply.specs.Opened.{IsOpenedWord}
use Rattle.bn_reply.specs.TableReply.{WordReplies, spelled}
use Rattle.bn_reply.specs.Words.{IsSpelledBy}
use Rattle.bn_reply.proofs.ReplyLemmas.{ends_as, silent_ends}
use Rattle.bn_reply.proofs.SettledLemmas.{foreign_replies}
use Rattle.bn_reply_traces.specs.TraceReply.{TellsTrace}
use Rattle.bn_reply_traces.proofs.trace.answer_word.Goals as goal

pub give_trace-requires-clause-spelled : goal.give_trace-requires-clause-spelled
give_trace-requires-clause-spelled g c =
    let is = subst (IsOpenedWord c.args.table.now c.args.word.now) c.in-Ok-Symbols.field-0-is c.in-Ok-Symbols.ensures in
    (c.args.word.now, subst (IsSpelledBy c.args.table.now c.args.word.now) (sym c.as_slice.ensures.value) is)

pub returns-in-Ok-Symbols-clause-ends : goal.returns-in-Ok-Symbols-clause-ends
returns-in-Ok-Symbols-clause-ends g c = λ told.
    let t = c.args.table.now in
    let symbols = c.as_slice.result.now in
    let tells = TellsTrace t c.args.most_steps in
    let opened = subst (IsOpenedWord t c.args.word.now) c.in-Ok-Symbols.field-0-is c.in-Ok-Symbols.ensures in
    let is = subst (IsSpelledBy t c.args.word.now) (sym c.as_slice.ensures.value) opened in
    ends_as (tells symbols) (WordReplies tells t c.args.word.now) (λ status text places h. spelled symbols is h)
    (g.K.Sink.taken c.args.sink.now) (g.K.Sink.taken c.give_trace.new.sink) told told c.give_trace.result
    (g.K.Sink.faults c.args.sink.now) (g.K.Sink.faults c.give_trace.new.sink) (c.give_trace.ensures.ends told)

pub returns-in-Ok-Refused-clause-ends : goal.returns-in-Ok-Refused-clause-ends
returns-in-Ok-Refused-clause-ends g c = λ told.
    let t = c.args.table.now in
    let tells = TellsTrace t c.args.most_steps in
    let opened = subst (IsOpenedWord t c.args.word.now) c.in-Ok-Refused.field-0-is c.in-Ok-Refused.ensures in
    silent_ends (WordReplies tells t c.args.word.now) (Ok c.in-Ok-Refused.reply) c.give_reply.result
    (g.K.Sink.taken c.args.sink.now) (g.K.Sink.taken c.give_reply.new.sink) (g.K.Sink.faults c.args.sink.now)
    (g.K.Sink.faults c.give_reply.new.sink) told
    (foreign_replies tells t c.args.word.now c.in-Ok-Refused.reply opened) c.give_reply.ensures.ends
