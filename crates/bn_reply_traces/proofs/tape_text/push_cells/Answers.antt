use Rattle.std.specs.Prelude.{pos, ◌+ℤ◌, ◌^◌, ◌<◌}
use Rattle.std.proofs.Common.{◌≡◌, ◌++◌, rules, arith, sym, subst, append-nil, add-one, w64, of_z, to_z}
use Rattle.std.proofs.lemmas.Int.{ints, to_z-of_z, to_z_pos}
use Rattle.bn_machine.specs.Tape.{cell}
use Rattle.bn_reply_traces.specs.Extents.{symbols_from}
use Rattle.bn_reply_traces.specs.MomentText.{names_text}
use Rattle.bn_reply_traces.proofs.TextLemmas.{cell_pushed}
use Rattle.bn_reply_traces.proofs.tape_text.push_cells.Goals as goal

pub loop-index-init : goal.loop-index-init
loop-index-init g c = λ t s. sym (append-nil c.args.text.now.items)

pub push_symbol-requires : goal.push_symbol-requires
push_symbol-requires g c = c.symbol_at.ensures.below (g.L.Spells.symbols c.args.names.now) c.requires.below

pub loop-index-preserved : goal.loop-index-preserved
loop-index-preserved g c = λ t s.
    let first = c.args.first in
    let count = c.args.count in
    let i = c.loop-index.index in
    let f = to_z-of_z w64 first (search rules) in
    let short : i < count = c.loop-index-test.true in
    let windowed = c.requires.windowed in
    let small : i < 2 ^ 63 = omega (
      arith,
      ints,
      short,
      windowed.left_side,
      windowed.right_side,
      c.requires.few,
      c.requires.begins.le,
      c.requires.ends.le,
    ) in
    let n = to_z_pos w64 i small in
    let z = to_z-of_z w64 (first +ℤ pos i) (search rules) in
    rw add-one (cell_pushed (g.L.Spells.name c.args.names.now) (cell t) (to_z w64 (of_z w64 c.args.first)) _
    c.loop-index.index
    c.symbol_at.result c.args.text.now.items c.loop-index.text.items c.push.new.text.items c.push_symbol.new.text.items
    (c.loop-index.invariant t s) c.in_ok-push.ensures.added c.in_ok-push_symbol.ensures (c.symbol_at.ensures.value t s)
    (rw (f, n) z))

pub returns : goal.returns
returns g c = λ t s.
    let k = to_z-of_z w64 c.args.first (search rules) in
    let all : c.loop-index.index ≡ c.args.count = omega (arith, c.loop-index-test.false, c.loop-index.auto.index-end) in
    subst (λ n. c.loop-index.text.items
    ≡ c.args.text.now.items ++ names_text (g.L.Spells.name c.args.names.now) (symbols_from (cell t) c.args.first n)) all
    (rw (sym k) (c.loop-index.invariant t s))
