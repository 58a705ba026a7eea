use Rattle.std.specs.Prelude.{◌≡◌, codes, decimal}
use Rattle.std.proofs.Common.{rules, arith, sym, ◌∙◌, w64}
use Rattle.std.proofs.lemmas.Int.{ints, to_z-of_z}
use Rattle.std.proofs.lemmas.Result.{on_ok_weaker}
use Rattle.bn_machine.specs.Tape.{cell}
use Rattle.bn_reply.specs.Lines.{position_text}
use Rattle.bn_reply_traces.specs.Extents.{symbols_from}
use Rattle.bn_reply_traces.specs.MomentText.{names_text}
use Rattle.bn_reply_traces.proofs.TextLemmas.{eight_pieces}
use Rattle.bn_reply_traces.proofs.tape_text.push_tape.Goals as goal

pub returns : goal.returns
returns g c = λ t count s counted.
    let first = c.args.extent.first in
    let f = to_z-of_z w64 first (search rules) in
    let h = to_z-of_z w64 c.head-head.result (search rules) in
    let many = c.cells-count.ensures in
    let same : c.cells-count.result ≡ count = omega (arith, ints, many, counted) in
    let head : c.head-head.result ≡ t.head = c.head-head.ensures.value ∙ sym s.head in
    let name = g.L.Spells.name c.args.names.now in
    on_ok_weaker c.push_cells.result (λ last.
    eight_pieces c.args.text.now.items (codes " from ") (position_text first) (codes " head ") (position_text t.head)
    (codes " cells ") (decimal count) (codes ":") (names_text name (symbols_from (cell t) first count))
    c.push.new.text.items c.push_position.new.text.items c.push-2.new.text.items c.push_position-2.new.text.items
    c.push-3.new.text.items c.push_u64.new.out.items c.push-4.new.text.items c.push_cells.new.text.items
    c.in_ok-push.ensures.added (rw (sym f) c.in_ok-push_position.ensures.added) c.in_ok-push-2.ensures.added
    (rw (sym head, sym h) c.in_ok-push_position-2.ensures.added) c.in_ok-push-3.ensures.added
    (rw (sym same) c.in_ok-push_u64.ensures.ok) c.in_ok-push-4.ensures.added (rw (sym same, sym f) last))
    (c.push_cells.ensures t s)
