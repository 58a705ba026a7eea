use Rattle.std.proofs.Common.{◌≡◌, ◌+◌, ◌*◌, ◌<◌, Some, slice_set, ◌∙◌, ap, subst, sym, arith}
use Rattle.bn_circuits.specs.declared.line.Line.{Line}
use Rattle.bn_packed.specs.Numbers.{line_of}
use Rattle.bn_packed.specs.Ends.{AreReversed, EndList, IsLineBelow, nth_line}
use Rattle.bn_packed.proofs.EndLemmas.{line_below}
use Rattle.bn_packed.proofs.ReversedLemmas.{by_line, loose_reversed, more_reversed}
use Rattle.bn_packed.proofs.BlockLemmas.{nth_again}
use Rattle.bn_packed.proofs.NumberLemmas.{none_read}
use Rattle.bn_packed.proofs.ends.Ends.inverse_in.Goals.{then-not-is_loose, else-not-is_loose}
use Rattle.bn_packed.proofs.ends.Ends.inverse_in.Goals as goal

pub set_at-requires-clause-there : goal.set_at-requires-clause-there
set_at-requires-clause-there g c =
    let has = by_line c.args.self.now.ends c.loop-place.place c.nth_line-line.result _ c.nth_line-line.ensures
    (c.cell-cell.ensures ∙ ap Some c.number.ensures) in
    subst (λ n. IsLineBelow n (line_of c.number.result)) (sym c.loop-place.invariant.1)
    (c.requires.targets.inside c.loop-place.place (line_of c.number.result) has)

pub set_at-requires-clause-below : goal.set_at-requires-clause-below
set_at-requires-clause-below g c =
    let here = nth_again c.nth_line-line.result c.loop-place.place c.line_number.result c.nth_line-line.ensures
    c.line_number.ensures in
    let low : c.loop-place.place < 4 * c.args.self.now.elements =
    omega (arith, c.loop-place-test.true, ap (λ (e : EndList). e.elements) c.self.view_is) in
    subst (λ n. IsLineBelow n (line_of c.line_number.result)) (sym c.loop-place.invariant.1)
    (subst (IsLineBelow c.args.self.now.elements) (sym here) (line_below c.args.self.now.elements c.loop-place.place
    low))

pub loop-place-preserved : goal.loop-place-preserved
loop-place-preserved g c = elim c.if-not-is_loose.branch [
  | then-not-is_loose w ↦
      let has = by_line c.args.self.now.ends c.loop-place.place c.nth_line-line.result _ c.nth_line-line.ensures
      (c.cell-cell.ensures ∙ ap Some w.number.ensures) in
      let here = nth_again c.nth_line-line.result c.loop-place.place w.line_number.result c.nth_line-line.ensures
      w.line_number.ensures in
      let written : c.if-not-is_loose.ends.ends ≡ slice_set c.loop-place.ends.ends
      (4 * (line_of w.number.result).element + (line_of w.number.result).line)
      (Some (nth_line c.loop-place.place)) =
      ap (λ (e : EndList). e.ends) w.ends-is ∙ w.set_at.ensures.ends
      ∙ ap (λ (l : Line). slice_set c.loop-place.ends.ends (4 * (line_of w.number.result).element
      + (line_of w.number.result).line) (Some l)) here in (
        more_reversed c.args.self.now c.loop-place.place (line_of w.number.result) c.loop-place.ends.ends
            c.if-not-is_loose.ends.ends c.requires.targets has written
            c.loop-place.invariant.0,
        ap (λ (e : EndList). e.elements) w.ends-is ∙ w.set_at.ensures.elements ∙ c.loop-place.invariant.1,
      )
  | else-not-is_loose w ↦
      let none = none_read (g.C.Cell.tells c.cell-cell.result) (sym c.is_loose.ensures ∙ w.if-not-is_loose.false) in
      let has = by_line c.args.self.now.ends c.loop-place.place c.nth_line-line.result _ c.nth_line-line.ensures
      (c.cell-cell.ensures ∙ ap Some none) in (
        subst (AreReversed c.args.self.now.ends (c.loop-place.place + 1)) (sym (ap (λ (e : EndList). e.ends) w.ends-is))
            (loose_reversed c.args.self.now c.loop-place.place c.loop-place.ends.ends has c.loop-place.invariant.0),
        ap (λ (e : EndList). e.elements) w.ends-is ∙ c.loop-place.invariant.1,
      )
]
