use Rattle.std.proofs.Common.{[], map, Global, Some, subst, sym}
use Rattle.std.specs.String.{string_bytes}
use Rattle.bn_reply.specs.Outside.{outside}
use Rattle.bn_top.specs.Clauses.{CallEnds}
use Rattle.bn_top.proofs.MemoryLemmas.{answer_otherwise, in_memory, unfinished_at}
use Rattle.bn_top.proofs.memory.reply_in_memory.Goals as goal

pub returns-in-WriteFault-clause-no_memory : goal.returns-in-WriteFault-clause-no_memory
returns-in-WriteFault-clause-no_memory g c =
    let words = map (string_bytes {Z = Global}) c.args.words.now in
    let told = g.W.Watch.told c.args.watch.now in
    let heard = g.W.Watch.told c.answer_words.new.watch in
    let after = outside (Some c.answer_words.new.input.rest.now) (Some c.answer_words.new.sink.0) heard 0
    c.answer_words.new.sink.1 in
    let ends = subst (λ s. CallEnds words c.answer_words.result
    (outside (Some c.new-input.result.rest.now) (Some s.0) told 0 s.1) after)
    c.new-sink.ensures c.answer_words.ensures.ends
    in
    let lent = subst (λ bytes. CallEnds words c.answer_words.result (outside (Some bytes) (Some []) told 0 0) after)
    c.new-input.ensures ends
    in
    unfinished_at words c.args.input.now (Some c.answer_words.new.input.rest.now) (Some c.answer_words.new.sink.0) told
    heard
    0 c.answer_words.new.sink.1 c.answer_words.result lent c.in-WriteFault.is

pub returns-in_default : goal.returns-in_default
returns-in_default g c =
    let words = map (string_bytes {Z = Global}) c.args.words.now in
    let told = g.W.Watch.told c.args.watch.now in
    let heard = g.W.Watch.told c.answer_words.new.watch in
    let left = Some c.answer_words.new.input.rest.now in
    let status = c.answer_words.result in
    let faults = c.answer_words.new.sink.1 in
    let after = outside left (Some c.answer_words.new.sink.0) heard 0 faults in
    let ends = subst (λ s. CallEnds words status (outside (Some c.new-input.result.rest.now) (Some s.0) told 0 s.1)
    after)
    c.new-sink.ensures c.answer_words.ensures.ends
    in
    let lent = subst (λ bytes. CallEnds words status (outside (Some bytes) (Some []) told 0 0) after)
    c.new-input.ensures ends in
    let taken = subst (λ text. CallEnds words status (outside (Some c.args.input.now) (Some []) told 0 0)
    (outside left (Some text) heard 0 faults)) (sym c.into_bytes.ensures) lent
    in
    record {
      replied = in_memory words c.args.input.now left (record { text = c.into_bytes.result; status = status }) told
          heard
          0 faults taken (answer_otherwise status c.in_default.not-ReadFault c.in_default.not-WriteFault
          c.in_default.not-NoMemory);
      no_memory = tt;
    }
