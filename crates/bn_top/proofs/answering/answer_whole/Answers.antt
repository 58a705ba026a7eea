use Rattle.std.proofs.Common.{◌≡◌, ◌+◌, ◌∙◌, List, Some, ap, arith, drop, option_map, subst, sym, ℕ}
use Rattle.bn_reply.specs.Outside.{outside}
use Rattle.bn_reply.specs.Streams.{StreamEnds}
use Rattle.bn_reply.specs.declared.limits.TheConstants.{MOST_INPUT_BYTES}
use Rattle.bn_words.specs.Requests.{of_whole}
use Rattle.bn_top.specs.Answers.{Replies}
use Rattle.bn_top.proofs.LentLemmas.{lent_rest}
use Rattle.bn_top.proofs.answering.answer_whole.Goals as goal

pub returns-clause-ends : goal.returns-clause-ends
returns-clause-ends g c =
    let replies = Replies (of_whole c.args.asked.now) in
    let lent = c.in-Some.ensures in
    let bytes = c.in-Some.bytes.now in
    let count = c.piece_size-count.result in
    let front : drop count bytes ≡ drop (MOST_INPUT_BYTES + 1) bytes =
    lent_rest bytes MOST_INPUT_BYTES count (omega (arith, c.piece_size-count.ensures)) in
    let rest : g.I.Input.left c.take_lent.new.self ≡ Some (drop (MOST_INPUT_BYTES + 1) bytes) =
    c.take_lent.ensures.less lent.0 ∙ ap (option_map (drop count)) lent.1 ∙ ap (λ (xs : List ℕ). Some xs) front in
    let taken = g.K.Sink.taken c.args.sink.now in
    let took = g.K.Sink.taken c.answer_lent-status.new.sink in
    let told = g.W.Watch.told c.args.watch.now in
    let heard = g.W.Watch.told c.answer_lent-status.new.watch in
    let before = g.K.Sink.faults c.args.sink.now in
    let now = g.K.Sink.faults c.answer_lent-status.new.sink in
    let reads = g.I.Input.faults c.args.input.now in
    let status = c.answer_lent-status.result in
    let same = subst (λ f. StreamEnds replies status (outside (Some bytes) taken told reads before)
    (outside (Some (drop (MOST_INPUT_BYTES + 1) bytes)) took heard f now)) (sym c.take_lent.ensures.faultless)
    (c.answer_lent-status.ensures reads) in
    let after = subst (λ l. StreamEnds replies status (outside (Some bytes) taken told reads before)
    (outside l took heard (g.I.Input.faults c.take_lent.new.self) now)) (sym rest) same in
    subst (λ l. StreamEnds replies status (outside l taken told reads before)
    (outside (g.I.Input.left c.take_lent.new.self) took heard (g.I.Input.faults c.take_lent.new.self) now)) (sym lent.1)
    after
