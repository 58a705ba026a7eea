use Rattle.std.specs.Prelude.{◌^◌, ◌<◌, length, refl}
use Rattle.std.proofs.Common.{rules, sym, subst}
use Rattle.bn_reply.specs.Streams.{begun, cut, wanting}
use Rattle.bn_reply_traces.proofs.GivenLemmas.{trace_begun, trace_ends, word_of}
use Rattle.bn_reply_traces.proofs.MomentLemmas.{scans, whole_fits}
use Rattle.bn_reply_traces.proofs.TraceLemmas.{letters_of_word}
use Rattle.bn_reply_traces.proofs.trace.give_trace.Goals as goal

pub start-requires-clause-letters : goal.start-requires-clause-letters
start-requires-clause-letters g c =
    letters_of_word c.args.table.now c.requires.spelled.0 c.args.word.now c.requires.spelled.1

pub give_moments-requires-clause-word : goal.give_moments-requires-clause-word
give_moments-requires-clause-word g c =
    let few : length c.args.word.now < 2 ^ 62 = search rules in
    word_of c.args.table.now c.requires.spelled.0 c.args.word.now c.machine.ensures.valid c.requires.spelled.1 few

pub give_moments-requires-clause-start : goal.give_moments-requires-clause-start
give_moments-requires-clause-start g c = c.in-Ok.ensures c.args.table.now (sym c.machine.ensures.value)

pub give_outcome-requires-clause-state : goal.give_outcome-requires-clause-state
give_outcome-requires-clause-state g c =
    let few : length c.args.word.now < 2 ^ 62 = search rules in
    let word = word_of c.args.table.now c.requires.spelled.0 c.args.word.now c.machine.ensures.valid
    c.requires.spelled.1 few in
    let at = c.in-Ok-give_moments.ensures.at.stage in
    let fits = whole_fits c.args.table.now c.args.word.now c.args.most_steps c.in-Ok-give_moments.ended.steps
    c.give_moments.new.stage c.machine.ensures.valid word at
    in
    subst (λ z. z < c.args.table.now.machine.states) at.state fits.state

pub give_outcome-requires-clause-symbol : goal.give_outcome-requires-clause-symbol
give_outcome-requires-clause-symbol g c =
    let few : length c.args.word.now < 2 ^ 62 = search rules in
    let word = word_of c.args.table.now c.requires.spelled.0 c.args.word.now c.machine.ensures.valid
    c.requires.spelled.1 few in
    let at = c.in-Ok-give_moments.ensures.at.stage in
    let n = c.args.most_steps in
    let steps = c.in-Ok-give_moments.ended.steps in
    let fits = whole_fits c.args.table.now c.args.word.now n steps c.give_moments.new.stage c.machine.ensures.valid word
    at in
    subst (λ z. z < c.args.table.now.machine.symbols)
    (scans c.args.table.now c.args.word.now n steps c.give_moments.new.stage at) (fits.symbols at.whole.tape.head)

pub returns-in-Ok-give_moments-clause-ends : goal.returns-in-Ok-give_moments-clause-ends
returns-in-Ok-give_moments-clause-ends g c = λ told.
    trace_ends c.args.table.now c.args.word.now c.args.most_steps c.give_moments.new.stage
    c.in-Ok-give_moments.ended.steps c.in-Ok-give_moments.ended.rule c.give_moments.new.text.items
    (g.K.Sink.taken c.args.sink.now) (g.K.Sink.taken c.give_moments.new.sink) (g.K.Sink.taken c.give_outcome.new.sink)
    c.give_outcome.result (g.K.Sink.faults c.args.sink.now) (g.K.Sink.faults c.give_moments.new.sink)
    (g.K.Sink.faults c.give_outcome.new.sink) told c.in-Ok-give_moments.ensures.told c.in-Ok-give_moments.ensures.at
    c.give_moments.ensures.later.later c.give_outcome.ensures.ends

pub returns-in-Err-WriteFault-clause-ends : goal.returns-in-Err-WriteFault-clause-ends
returns-in-Err-WriteFault-clause-ends g c = λ told.
    let letters = letters_of_word c.args.table.now c.requires.spelled.0 c.args.word.now c.requires.spelled.1 in
    cut refl (search rules) (trace_begun c.args.table.now c.args.word.now c.args.most_steps
    (g.K.Sink.taken c.args.sink.now) (g.K.Sink.taken c.give_moments.new.sink) told letters
    c.in-Err-WriteFault.ensures.front)

pub returns-clause-ends : goal.returns-clause-ends
returns-clause-ends g c = λ told.
    let letters = letters_of_word c.args.table.now c.requires.spelled.0 c.args.word.now c.requires.spelled.1 in
    wanting refl (begun (trace_begun c.args.table.now c.args.word.now c.args.most_steps
    (g.K.Sink.taken c.args.sink.now) (g.K.Sink.taken c.give_moments.new.sink) told letters
    c.in-Err-NoMemory.ensures.front))
