use Rattle.std.proofs.Common.{refl, Ok, subst}
use Rattle.bn_reply.specs.Opened.{IsJudged}
use Rattle.bn_reply.specs.TableReply.{JudgedReplies, WordReplies, fit, unfit}
use Rattle.bn_reply.proofs.ReplyLemmas.{ends_as, silent_ends}
use Rattle.bn_reply_traces.specs.TraceReply.{TellsTrace}
use Rattle.bn_reply_traces.proofs.trace.answer_table.Goals as goal

pub returns-in-Ok-Standard-clause-ends : goal.returns-in-Ok-Standard-clause-ends
returns-in-Ok-Standard-clause-ends g c = λ told.
    let t = c.args.table.now in
    let tells = WordReplies (TellsTrace t c.args.most_steps) t c.args.word.now in
    let judged = subst (IsJudged t) c.in-Ok-Standard.field-0-is c.in-Ok-Standard.ensures.judged in
    ends_as tells (JudgedReplies tells t) (λ status text places h. fit judged.1 h)
    (g.K.Sink.taken c.args.sink.now) (g.K.Sink.taken c.answer_word.new.sink) told told c.answer_word.result
    (g.K.Sink.faults c.args.sink.now) (g.K.Sink.faults c.answer_word.new.sink) (c.answer_word.ensures.ends told)

pub returns-in-Ok-Refused-clause-ends : goal.returns-in-Ok-Refused-clause-ends
returns-in-Ok-Refused-clause-ends g c = λ told.
    let t = c.args.table.now in
    let tells = WordReplies (TellsTrace t c.args.most_steps) t c.args.word.now in
    let judged = subst (IsJudged t) c.in-Ok-Refused.field-0-is c.in-Ok-Refused.ensures.judged in
    silent_ends (JudgedReplies tells t) (Ok c.in-Ok-Refused.reply) c.give_reply.result
    (g.K.Sink.taken c.args.sink.now) (g.K.Sink.taken c.give_reply.new.sink) (g.K.Sink.faults c.args.sink.now)
    (g.K.Sink.faults c.give_reply.new.sink) told
    (unfit judged.1 judged.0 refl) c.give_reply.ensures.ends
