use Rattle.std.specs.Prelude.{ℕ, List, []}
use Rattle.std.proofs.Common.{Ok, subst}
use Rattle.bn_qtable.specs.Rows.{table_of}
use Rattle.bn_reply.proofs.ReplyLemmas.{ends_as, silent_ends}
use Rattle.bn_reply_traces.specs.MomentsReply.{TellsMoments, ThreeMomentsReplies}
use Rattle.bn_reply_machines.specs.QuadReply.{TapeWordReplies, passes, tape_foreign_line}
use Rattle.bn_reply_machines.specs.Opened.{AreOpenedQuads}
use Rattle.bn_reply_machines.proofs.QuadReplyLemmas.{refused}
use Rattle.bn_reply_traces.proofs.moments.answer_three_moments.Goals as goal

pub returns-in-Ok-Read-clause-ends : goal.returns-in-Ok-Read-clause-ends
returns-in-Ok-Read-clause-ends g c = λ told.
    let t = table_of c.in-Ok-Read.machine c.in-Ok-Read.names in
    let n = c.args.most_steps in
    let opened = subst (AreOpenedQuads c.args.bytes.now) c.in-Ok-Read.field-0-is c.in-Ok-Read.ensures in
    ends_as (TapeWordReplies (tape_foreign_line 1) (λ (one : List ℕ). TapeWordReplies (tape_foreign_line 2)
    (λ (two : List ℕ). TapeWordReplies (tape_foreign_line 3) (λ (three : List ℕ). TellsMoments t n one two three)
    t.names.three c.args.third.now) t.names.two c.args.second.now) t.names.one c.args.first.now)
    (ThreeMomentsReplies c.args.first.now c.args.second.now c.args.third.now n c.args.bytes.now)
    (λ status text places h. passes t opened.0 opened.1 opened.2 h)
    (g.K.Sink.taken c.args.sink.now) (g.K.Sink.taken c.answer_first.new.sink) told told c.answer_first.result
    (g.K.Sink.faults c.args.sink.now) (g.K.Sink.faults c.answer_first.new.sink) (c.answer_first.ensures.ends told)

pub returns-in-Ok-Refused-clause-ends : goal.returns-in-Ok-Refused-clause-ends
returns-in-Ok-Refused-clause-ends g c = λ told.
    let n = c.args.most_steps in
    let opened = subst (AreOpenedQuads c.args.bytes.now) c.in-Ok-Refused.field-0-is c.in-Ok-Refused.ensures in
    silent_ends (ThreeMomentsReplies c.args.first.now c.args.second.now c.args.third.now n c.args.bytes.now)
    (Ok c.in-Ok-Refused.reply)
    c.give_reply.result (g.K.Sink.taken c.args.sink.now) (g.K.Sink.taken c.give_reply.new.sink)
    (g.K.Sink.faults c.args.sink.now) (g.K.Sink.faults c.give_reply.new.sink) told
    (refused _ c.args.bytes.now c.in-Ok-Refused.reply.status c.in-Ok-Refused.reply.text.items [] opened)
    c.give_reply.ensures.ends
