use Rattle.std.proofs.Common.{◌≡◌, ◌<◌, ◌^◌, ◌*◌, ◌+◌, ℕ, List, None, Some, sym, subst, ◌∙◌, arith, length, ap}
use Rattle.std.proofs.Common.{replicate}
use Rattle.bn_circuits.specs.Circuits.{target}
use Rattle.bn_circuits.specs.declared.line.Line.{Line}
use Rattle.bn_element.specs.declared.rotary.Rotary.{Rotary}
use Rattle.bn_packed.specs.Ends.{AreEndsOf, EndList, IsLineBelow, nth_line, ahead, targets_by}
use Rattle.bn_packed.proofs.EndLemmas.{below_output, line_below, net_again, target_within}
use Rattle.bn_packed.proofs.AcrossLemmas.{ahead-AreTargets, opposite_below, targets_ahead}
use Rattle.bn_packed.proofs.ListedLemmas.{AreFirst, first_none, first_loose, first_more, first_all}
use Rattle.bn_packed.proofs.ReversedLemmas.{net-AreTargets}
use Rattle.bn_packed.proofs.wiring.ahead_of.Given.{Over}
use Rattle.bn_packed.proofs.wiring.ahead_of.Goals.{in-Some, in_default}
use Rattle.bn_packed.proofs.wiring.ahead_of.Goals as goal

place_there : (elements : List Rotary) (l : Line) (i : ℕ) → l ≡ nth_line i → i < 4 * length elements
    → IsLineBelow (length elements) l
place_there elements l i is low = subst (IsLineBelow (length elements)) (sym is) (line_below (length elements) i low)

pub target-requires : goal.target-requires
target-requires g c =
    let there = place_there c.args.net.now.elements c.nth_line-line.result c.loop-place.place c.nth_line-line.ensures
    (omega (arith, c.loop-place-test.true, c.len-2.ensures.number)) in
    let below = opposite_below (length c.args.net.now.elements) c.nth_line-line.result there in
    below_output c.args.net.now.elements c.opposite.result (subst (IsLineBelow (length c.args.net.now.elements))
    (sym c.opposite.ensures) below)

pub loop-place-init : goal.loop-place-init
loop-place-init g c =
    first_none (ahead c.args.net.now.wires) (length c.args.net.now.elements) c.in_ok-ends.ends
    (c.in_ok-ends.ensures.elements ∙ c.len.ensures.number)
    (c.in_ok-ends.ensures.ends ∙ ap (λ n. replicate (4 * n) None) c.len.ensures.number)

pub set-requires-clause-there : goal.set-requires-clause-there
set-requires-clause-there g c =
    subst (λ n. IsLineBelow n c.nth_line-line.result) (sym c.loop-place.invariant.elements)
    (place_there c.args.net.now.elements c.nth_line-line.result c.loop-place.place c.nth_line-line.ensures
    (omega (arith, c.loop-place-test.true, c.len-2.ensures.number)))

pub set-requires-clause-below : goal.set-requires-clause-below
set-requires-clause-below g c =
    let within = target_within c.args.net.now c.len.ensures.circuit c.opposite.result (Some c.in-Some.to)
    (sym c.in-Some.is ∙ c.target.ensures.line) in
    subst (λ n. IsLineBelow n c.in-Some.to) (sym c.loop-place.invariant.elements) within

pub loop-place-preserved : goal.loop-place-preserved
loop-place-preserved g c = elim c.match-target.branch [
  | in-Some w ↦
      let low : c.loop-place.place < 4 * length c.args.net.now.elements =
      omega (arith, c.loop-place-test.true, c.len-2.ensures.number) in
      let leads : Some w.in-Some.to ≡ ahead c.args.net.now.wires c.nth_line-line.result =
      sym w.in-Some.is ∙ c.target.ensures.line ∙ ap (target c.args.net.now.wires) c.opposite.ensures in
      first_more (ahead c.args.net.now.wires) c.loop-place.place (length c.args.net.now.elements) c.nth_line-line.result
      w.in-Some.to c.loop-place.ends
      c.match-target.ends c.loop-place.invariant low c.nth_line-line.ensures leads
      (ap (λ (e : EndList). e.elements) w.ends-is ∙ w.set.ensures.elements)
      (ap (λ (e : EndList). e.ends) w.ends-is ∙ w.set.ensures.ends)
  | in_default w ↦
      let none : None ≡ ahead c.args.net.now.wires c.nth_line-line.result =
      sym w.in_default.is ∙ c.target.ensures.line ∙ ap (target c.args.net.now.wires) c.opposite.ensures in
      subst (AreFirst (ahead c.args.net.now.wires) (c.loop-place.place + 1) (length c.args.net.now.elements))
      (sym w.ends-is)
      (first_loose (ahead c.args.net.now.wires) c.loop-place.place (length c.args.net.now.elements)
      c.nth_line-line.result c.loop-place.ends
      c.loop-place.invariant c.nth_line-line.ensures none)
]

ends_are : (g : Over) (c : goal.After-loop-place g)
    → AreEndsOf (ahead c.args.net.now.wires) (length c.args.net.now.elements) c.loop-place.ends
ends_are g c =
    first_all (ahead c.args.net.now.wires) c.loop-place.place (length c.args.net.now.elements) c.loop-place.ends
    c.loop-place.invariant
    (omega (arith, c.loop-place-test.false, c.len-2.ensures.number))

pub returns-clause-targets : goal.returns-clause-targets
returns-clause-targets g c =
    let few : length c.args.net.now.elements < 2 ^ 32 = omega (arith, c.len.ensures.number, c.len.type_inv) in
    targets_ahead c.loop-place.ends
    (net-AreTargets c.args.net.now (targets_by c.loop-place.ends) c.len.ensures.circuit few
    (ahead-AreTargets (target c.args.net.now.wires) (length c.args.net.now.elements) c.loop-place.ends (ends_are g c)))

pub returns-clause-net : goal.returns-clause-net
returns-clause-net g c =
    net_again c.args.net.now (targets_by c.loop-place.ends) c.len.ensures.circuit c.len.ensures.order
    (ahead-AreTargets (target c.args.net.now.wires) (length c.args.net.now.elements) c.loop-place.ends (ends_are g c))
