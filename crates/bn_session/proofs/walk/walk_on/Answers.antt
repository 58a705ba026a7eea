-- Where the way ends, and how it goes on.
use Rattle.std.proofs.Common.{◌≡◌, ap, sym, ◌∙◌, true, false}
use Rattle.bn_session.specs.Plays.{stops}
use Rattle.bn_session.specs.Walks.{once_along}
use Rattle.bn_session.proofs.WalkLemmas.{ends_still, ends_last, ends_hit, goes_on, tested_on}
use Rattle.bn_session.proofs.walk.walk_on.Goals as goal
use Rattle.bn_session.proofs.walk.walk_on.Goals.{then-not-step-via-then-not-step}
use Rattle.bn_session.proofs.walk.walk_on.Goals.{then-not-step-via-else-not-step+then-breaks_at}

pub returns-then-not-step-clause-walked : goal.returns-then-not-step-clause-walked
returns-then-not-step-clause-walked g c =
    let a = c.args.circuit.now in
    let k = g.C.Playable.circuit a in
    let moment = g.C.Playable.moment a in
    let before = c.loop-made in
    let b = before.circuit in
    let here = g.C.Playable.config b in
    let once = once_along c.args.direction k in
    elim c.then-not-step.branch [
      | then-not-step-via-then-not-step w ↦
          (let kept = w.if-not-step.ensures.kept in
          let goes : once here ≡ g.C.Playable.config c.step.new.self =
          ap (λ x. once_along c.args.direction x here) (sym (g.met.C.Playable.circuits a b before.invariant.same))
          ∙ sym w.if-not-step.ensures.made in
          kept ∙ ends_still (stops moment c.args.breaks.now) once c.args.count before._made
          (g.C.Playable.config a) here before.invariant.left (goes ∙ kept))
      | then-not-step-via-else-not-step+then-breaks_at w ↦
          (let new = g.met.C.Playable.again a b c.step.new.self before.invariant.same w.if-not-step.ensures.same in
          let goes : once here ≡ g.C.Playable.config c.step.new.self =
          ap (λ x. once_along c.args.direction x here) (sym (g.met.C.Playable.circuits a b before.invariant.same))
          ∙ sym w.if-not-step.ensures.made in
          ends_hit (stops moment c.args.breaks.now) once c.args.count before._made (g.C.Playable.config a) here
          before.invariant.left (g.C.Playable.config c.step.new.self) c.loop-made-test.true goes
          (tested_on moment (g.C.Playable.moment c.step.new.self)
          (g.met.C.Playable.moments a c.step.new.self new) c.args.breaks.now
          (g.C.Playable.config c.step.new.self) true w.if-breaks_at.ensures))
    ]

pub loop-made-preserved : goal.loop-made-preserved
loop-made-preserved g c =
    let a = c.args.circuit.now in
    let k = g.C.Playable.circuit a in
    let moment = g.C.Playable.moment a in
    let before = c.loop-made in
    let b = before.circuit in
    let here = g.C.Playable.config b in
    let once = once_along c.args.direction k in
    let new = g.met.C.Playable.again a b c.step.new.self before.invariant.same c.if-not-step.ensures.same in
    let goes : once here ≡ g.C.Playable.config c.step.new.self =
    ap (λ x. once_along c.args.direction x here) (sym (g.met.C.Playable.circuits a b before.invariant.same))
    ∙ sym c.if-not-step.ensures.made in
    record {
      left = goes_on (stops moment c.args.breaks.now) once c.args.count before._made (g.C.Playable.config a) here
          before.invariant.left (g.C.Playable.config c.step.new.self) c.loop-made-test.true goes
          (tested_on moment (g.C.Playable.moment c.step.new.self)
          (g.met.C.Playable.moments a c.step.new.self new) c.args.breaks.now
          (g.C.Playable.config c.step.new.self) false c.if-breaks_at.ensures);
      same = new;
    }

pub returns-clause-walked : goal.returns-clause-walked
returns-clause-walked g c =
    let a = c.args.circuit.now in
    let before = c.loop-made in
    ends_last (stops (g.C.Playable.moment a) c.args.breaks.now)
    (once_along c.args.direction (g.C.Playable.circuit a)) c.args.count before._made (g.C.Playable.config a)
    (g.C.Playable.config before.circuit) before.invariant.left c.loop-made-test.false
