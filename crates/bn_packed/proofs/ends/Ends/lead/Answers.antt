use Rattle.std.proofs.Common.{◌∙◌, sym, subst, arith, refl}
use Rattle.std.proofs.lemmas.Option.{slice_get-get_or}
use Rattle.bn_packed.specs.Ends.{IsLineBelow}
use Rattle.bn_packed.proofs.AcrossLemmas.{opposite_below}
use Rattle.bn_packed.proofs.ListedLemmas.{fits_at, ends_below}
use Rattle.bn_packed.proofs.DraftLemmas.{added_none, added_more, added_all}
use Rattle.bn_packed.proofs.ends.Ends.lead.Goals as goal

pub loop-wire-init : goal.loop-wire-init
loop-wire-init g c = record {
  elements = refl;
  added = added_none c.args.self.now.elements c.args.self.now c.args.wires.now;
}

pub set-requires-clause-there : goal.set-requires-clause-there
set-requires-clause-there g c =
    let fit = fits_at c.args.self.now.elements c.args.wires.now c.loop-wire.wire-index _ c.requires.fitting
    (slice_get-get_or c.args.wires.now c.loop-wire.wire-index _ c.loop-wire-test.true) in
    subst (λ n. IsLineBelow n c.opposite.result) (sym c.loop-wire.invariant.elements)
    (subst (IsLineBelow c.args.self.now.elements) (sym c.opposite.ensures)
    (opposite_below c.args.self.now.elements _ fit.from))

pub set-requires-clause-below : goal.set-requires-clause-below
set-requires-clause-below g c =
    ends_below c.args.self.now.elements c.loop-wire.self.elements c.args.wires.now c.loop-wire.wire-index _
    c.loop-wire.invariant.elements
    c.requires.fitting c.loop-wire-test.true

pub loop-wire-preserved : goal.loop-wire-preserved
loop-wire-preserved g c = record {
  elements = c.set.ensures.elements ∙ c.loop-wire.invariant.elements;
  added = added_more c.args.self.now.elements c.args.self.now c.loop-wire.self c.set.new.self c.args.wires.now
      c.loop-wire.wire-index _
      c.opposite.result c.requires.fitting (slice_get-get_or c.args.wires.now c.loop-wire.wire-index _
      c.loop-wire-test.true) c.opposite.ensures
      c.loop-wire.invariant.added c.set.ensures.elements c.set.ensures.ends;
}

pub returns-clause-drawn : goal.returns-clause-drawn
returns-clause-drawn g c =
    added_all c.args.self.now.elements c.args.self.now c.loop-wire.self c.args.wires.now c.loop-wire.wire-index
    c.requires.fitting
    (omega (arith, c.loop-wire-test.false)) c.loop-wire.invariant.added
