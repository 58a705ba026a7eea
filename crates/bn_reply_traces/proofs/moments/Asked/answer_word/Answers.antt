use Rattle.std.specs.Prelude.{◌<◌, ◌^◌, ℕ, List, [], length}
use Rattle.std.proofs.Common.{arith, rules, subst}
use Rattle.bn_reply.specs.Lines.{foreign_line}
use Rattle.bn_reply.proofs.ReplyLemmas.{ends_as, silent_ends}
use Rattle.bn_reply_traces.specs.MomentsReply.{TellsMoments}
use Rattle.bn_reply_machines.specs.QuadReply.{TapeWordReplies, spelled}
use Rattle.bn_reply_machines.specs.Opened.{IsAlphabet, IsSpelling}
use Rattle.bn_reply_traces.specs.QuadStages.{asked_table}
use Rattle.bn_reply_machines.proofs.AlphabetLemmas.{no_word, read_alphabet, some_symbol, word_on}
use Rattle.bn_reply_machines.proofs.QuadReplyLemmas.{foreign_told, spelled_on}
use Rattle.bn_reply_traces.proofs.moments.Asked.answer_word.Goals as goal

pub give-requires-clause-one : goal.give-requires-clause-one
give-requires-clause-one g c =
    let names = c.args.self.now.names.now.one in
    let few : length c.as_slice.result.now < 2 ^ 62 = search rules in
    let is = subst (IsSpelling c.symbols.result c.args.word.now) c.in-Ok-Symbols.field-0-is c.in-Ok-Symbols.ensures in
    word_on names c.args.word.now c.as_slice.result.now (subst IsAlphabet c.symbols.ensures.names
    c.symbols.ensures.alphabet) few
    (spelled_on names c.symbols.result c.args.word.now _ c.as_slice.result.now c.symbols.ensures.names
    c.as_slice.ensures.value is)

pub give-requires-clause-two : goal.give-requires-clause-two
give-requires-clause-two g c =
    let asked = c.requires in
    no_word c.args.self.now.names.now.two
    (some_symbol c.args.self.now.names.now.two (read_alphabet asked.bytes (asked_table c.args.self.now) 2 asked.read
    (omega arith)))

pub give-requires-clause-three : goal.give-requires-clause-three
give-requires-clause-three g c =
    let asked = c.requires in
    no_word c.args.self.now.names.now.three
    (some_symbol c.args.self.now.names.now.three (read_alphabet asked.bytes (asked_table c.args.self.now) 3 asked.read
    (omega arith)))

pub returns-in-Ok-Symbols-clause-ends : goal.returns-in-Ok-Symbols-clause-ends
returns-in-Ok-Symbols-clause-ends g c = λ told.
    let names = c.args.self.now.names.now.one in
    let t = asked_table c.args.self.now in
    let n = c.args.self.now.most_steps in
    let tells = (λ (one : List ℕ). TellsMoments t n one [] []) in
    let is = subst (IsSpelling c.symbols.result c.args.word.now) c.in-Ok-Symbols.field-0-is c.in-Ok-Symbols.ensures in
    let here = spelled_on names c.symbols.result c.args.word.now _ c.as_slice.result.now c.symbols.ensures.names
    c.as_slice.ensures.value is
    in
    ends_as (tells c.as_slice.result.now) (TapeWordReplies foreign_line tells names c.args.word.now)
    (λ status text places h. spelled c.as_slice.result.now here h) (g.K.Sink.taken c.args.sink.now)
    (g.K.Sink.taken c.give.new.sink) told told c.give.result (g.K.Sink.faults c.args.sink.now)
    (g.K.Sink.faults c.give.new.sink) (c.give.ensures.ends told)

pub returns-in-Ok-Foreign-clause-ends : goal.returns-in-Ok-Foreign-clause-ends
returns-in-Ok-Foreign-clause-ends g c = λ told.
    let names = c.args.self.now.names.now.one in
    let t = asked_table c.args.self.now in
    let n = c.args.self.now.most_steps in
    let tells = (λ (one : List ℕ). TellsMoments t n one [] []) in
    let is = subst (IsSpelling c.symbols.result c.args.word.now) c.in-Ok-Foreign.field-0-is c.in-Ok-Foreign.ensures in
    silent_ends (TapeWordReplies foreign_line tells names c.args.word.now) c.foreign_letter.result c.give_reply.result
    (g.K.Sink.taken c.args.sink.now) (g.K.Sink.taken c.give_reply.new.sink) (g.K.Sink.faults c.args.sink.now)
    (g.K.Sink.faults c.give_reply.new.sink) told
    (foreign_told foreign_line tells names c.symbols.result c.args.word.now _ c.symbols.ensures.names is
    c.foreign_letter.result
    c.foreign_letter.ensures.status c.foreign_letter.ensures.text) c.give_reply.ensures.ends
