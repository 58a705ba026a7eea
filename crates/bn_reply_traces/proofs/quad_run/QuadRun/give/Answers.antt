use Rattle.std.specs.Prelude.{refl}
use Rattle.std.proofs.Common.{rules}
use Rattle.bn_reply.specs.Streams.{begun, cut, wanting}
use Rattle.bn_reply_traces.specs.QuadStages.{table_in}
use Rattle.bn_reply_traces.proofs.MomentsLemmas.{moments_begun, moments_end}
use Rattle.bn_reply_traces.proofs.QuadGivenLemmas.{ended_outcome}
use Rattle.bn_reply_traces.proofs.quad_run.QuadRun.give.Goals as goal

pub returns-in-Ok-give_lines-clause-ends : goal.returns-in-Ok-give_lines-clause-ends
returns-in-Ok-give_lines-clause-ends g c = λ told.
    let r = c.args.self.now in
    let e = c.in-Ok-give_lines.ended in
    let are = c.in-Ok-give_lines.ensures.told in
    let at = c.in-Ok-give_lines.ensures.at in
    let out = ended_outcome r at.0 c.give_lines.new.stage e.steps e.rule at.1 in
    moments_end (table_in r) r.most_steps r.words.one.now r.words.two.now r.words.three.now at.0 out.0 e.steps
    c.give_lines.new.text.items are.given (g.K.Sink.taken c.args.sink.now) (g.K.Sink.taken c.give_lines.new.sink)
    (g.K.Sink.taken c.give_outcome.new.sink) c.give_outcome.result (g.K.Sink.faults c.args.sink.now)
    (g.K.Sink.faults c.give_lines.new.sink) (g.K.Sink.faults c.give_outcome.new.sink) told out.2 out.3 out.1 are.grown
    are.lines c.give_lines.ensures.later.later (c.give_outcome.ensures.ends at.0 out.0 at.1 out.1)

pub returns-in-Err-WriteFault-clause-ends : goal.returns-in-Err-WriteFault-clause-ends
returns-in-Err-WriteFault-clause-ends g c = λ told.
    let r = c.args.self.now in
    let run = c.requires in
    let h = c.in-Err-WriteFault.ensures.front in
    cut refl (search rules) (moments_begun (table_in r) r.most_steps r.words.one.now r.words.two.now r.words.three.now
    h.number h.text (g.K.Sink.taken c.args.sink.now) (g.K.Sink.taken c.give_lines.new.sink) told run.deterministic
    run.words.one.letters run.words.two.letters run.words.three.letters h.few h.lines h.grown)

pub returns-clause-ends : goal.returns-clause-ends
returns-clause-ends g c = λ told.
    let r = c.args.self.now in
    let run = c.requires in
    let h = c.in-Err-NoMemory.ensures.front in
    wanting refl (begun (moments_begun (table_in r) r.most_steps r.words.one.now r.words.two.now r.words.three.now
    h.number h.text (g.K.Sink.taken c.args.sink.now) (g.K.Sink.taken c.give_lines.new.sink) told run.deterministic
    run.words.one.letters run.words.two.letters run.words.three.letters h.few h.lines h.grown))
