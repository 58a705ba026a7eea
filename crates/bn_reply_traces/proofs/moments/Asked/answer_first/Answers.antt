use Rattle.std.specs.Prelude.{◌<◌, ◌^◌, ℕ, List, length}
use Rattle.std.proofs.Common.{rules, subst}
use Rattle.bn_reply.proofs.ReplyLemmas.{ends_as, silent_ends}
use Rattle.bn_reply_traces.specs.MomentsReply.{TellsMoments}
use Rattle.bn_reply_machines.specs.QuadReply.{TapeWordReplies, spelled, tape_foreign_line}
use Rattle.bn_reply_machines.specs.Opened.{IsAlphabet, IsSpelling}
use Rattle.bn_reply_traces.specs.QuadStages.{asked_table}
use Rattle.bn_reply_machines.proofs.AlphabetLemmas.{word_on}
use Rattle.bn_reply_machines.proofs.QuadReplyLemmas.{foreign_told, spelled_on}
use Rattle.bn_reply_traces.proofs.moments.Asked.answer_first.Goals as goal

pub answer_second-requires-clause-one : goal.answer_second-requires-clause-one
answer_second-requires-clause-one g c =
    let names = c.args.self.now.names.now.one in
    let few : length c.as_slice.result.now < 2 ^ 62 = search rules in
    let is = subst (IsSpelling c.symbols.result c.args.first.now) c.in-Ok-Symbols.field-0-is c.in-Ok-Symbols.ensures in
    word_on names c.args.first.now c.as_slice.result.now (subst IsAlphabet c.symbols.ensures.names
    c.symbols.ensures.alphabet) few
    (spelled_on names c.symbols.result c.args.first.now _ c.as_slice.result.now c.symbols.ensures.names
    c.as_slice.ensures.value is)

pub returns-in-Ok-Symbols-clause-ends : goal.returns-in-Ok-Symbols-clause-ends
returns-in-Ok-Symbols-clause-ends g c = λ told.
    let names = c.args.self.now.names.now.one in
    let t = asked_table c.args.self.now in
    let n = c.args.self.now.most_steps in
    let tells = (λ (one : List ℕ). TapeWordReplies (tape_foreign_line 2)
    (λ (two : List ℕ). TapeWordReplies (tape_foreign_line 3) (λ (three : List ℕ). TellsMoments t n one two three)
    c.args.self.now.names.now.three c.args.third.now) c.args.self.now.names.now.two c.args.second.now) in
    let is = subst (IsSpelling c.symbols.result c.args.first.now) c.in-Ok-Symbols.field-0-is c.in-Ok-Symbols.ensures in
    let here = spelled_on names c.symbols.result c.args.first.now _ c.as_slice.result.now c.symbols.ensures.names
    c.as_slice.ensures.value is
    in
    ends_as (tells c.as_slice.result.now) (TapeWordReplies (tape_foreign_line 1) tells names c.args.first.now)
    (λ status text places h. spelled c.as_slice.result.now here h) (g.K.Sink.taken c.args.sink.now)
    (g.K.Sink.taken c.answer_second.new.sink) told told c.answer_second.result (g.K.Sink.faults c.args.sink.now)
    (g.K.Sink.faults c.answer_second.new.sink) (c.answer_second.ensures.ends told)

pub returns-in-Ok-Foreign-clause-ends : goal.returns-in-Ok-Foreign-clause-ends
returns-in-Ok-Foreign-clause-ends g c = λ told.
    let names = c.args.self.now.names.now.one in
    let t = asked_table c.args.self.now in
    let n = c.args.self.now.most_steps in
    let tells = (λ (one : List ℕ). TapeWordReplies (tape_foreign_line 2)
    (λ (two : List ℕ). TapeWordReplies (tape_foreign_line 3) (λ (three : List ℕ). TellsMoments t n one two three)
    c.args.self.now.names.now.three c.args.third.now) c.args.self.now.names.now.two c.args.second.now) in
    let is = subst (IsSpelling c.symbols.result c.args.first.now) c.in-Ok-Foreign.field-0-is c.in-Ok-Foreign.ensures in
    silent_ends (TapeWordReplies (tape_foreign_line 1) tells names c.args.first.now) c.foreign_on_tape.result
    c.give_reply.result
    (g.K.Sink.taken c.args.sink.now) (g.K.Sink.taken c.give_reply.new.sink) (g.K.Sink.faults c.args.sink.now)
    (g.K.Sink.faults c.give_reply.new.sink) told
    (foreign_told (tape_foreign_line 1) tells names c.symbols.result c.args.first.now _ c.symbols.ensures.names is
    c.foreign_on_tape.result
    c.foreign_on_tape.ensures.status c.foreign_on_tape.ensures.text) c.give_reply.ensures.ends
