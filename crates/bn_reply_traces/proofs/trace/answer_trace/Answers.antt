use Rattle.std.proofs.Common.{refl, subst, Ok}
use Rattle.bn_reply.specs.Opened.{IsOpenedTable}
use Rattle.bn_reply.specs.TableReply.{JudgedReplies, WordReplies, faulty, read}
use Rattle.bn_reply.proofs.ReplyLemmas.{ends_as, silent_ends}
use Rattle.bn_reply_traces.specs.TraceReply.{TellsTrace, TraceReplies}
use Rattle.bn_reply_traces.proofs.trace.answer_trace.Goals as goal

pub returns-in-Ok-Read-clause-ends : goal.returns-in-Ok-Read-clause-ends
returns-in-Ok-Read-clause-ends g c = λ told.
    let t = c.in-Ok-Read.table in
    let word = c.args.word.now in
    let n = c.args.most_steps in
    let opened = subst (IsOpenedTable c.args.bytes.now) c.in-Ok-Read.field-0-is c.in-Ok-Read.ensures in
    ends_as (JudgedReplies (WordReplies (TellsTrace t n) t word) t) (TraceReplies word n c.args.bytes.now)
    (λ status text places h. read t opened h) (g.K.Sink.taken c.args.sink.now)
    (g.K.Sink.taken c.answer_table.new.sink) told told c.answer_table.result (g.K.Sink.faults c.args.sink.now)
    (g.K.Sink.faults c.answer_table.new.sink) (c.answer_table.ensures.ends told)

pub returns-in-Ok-Refused-clause-ends : goal.returns-in-Ok-Refused-clause-ends
returns-in-Ok-Refused-clause-ends g c = λ told.
    let opened = subst (IsOpenedTable c.args.bytes.now) c.in-Ok-Refused.field-0-is c.in-Ok-Refused.ensures in
    silent_ends (TraceReplies c.args.word.now c.args.most_steps c.args.bytes.now) (Ok c.in-Ok-Refused.reply)
    c.give_reply.result (g.K.Sink.taken c.args.sink.now) (g.K.Sink.taken c.give_reply.new.sink)
    (g.K.Sink.faults c.args.sink.now) (g.K.Sink.faults c.give_reply.new.sink) told
    (faulty opened.1 opened.0 refl) c.give_reply.ensures.ends
