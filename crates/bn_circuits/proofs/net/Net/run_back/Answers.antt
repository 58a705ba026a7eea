use Rattle.std.proofs.Common.{◌≡◌, ◌+◌, sym, ap, subst, ◌∙◌, refl, arith}
use Rattle.bn_lists.proofs.RunsLemmas.{runs_join}
use Rattle.bn_circuits.specs.Circuits.{Goes, IsFirst}
use Rattle.bn_circuits.specs.Stepping.{run, back}
use Rattle.bn_circuits.proofs.RunLemmas.{back-zero, back_composes, Reaches-run}
use Rattle.bn_circuits.specs.Parts.{circuit}
use Rattle.bn_circuits.proofs.NetSteps.{back_rests}
use Rattle.bn_circuits.proofs.net.Net.run_back.Goals as goal

pub loop-made-init : goal.loop-made-init
loop-made-init g c = (
  refl,
  c.requires,
  sym (back-zero (circuit g.E.Element.table c.args.self.now) c.args.config.now),
)

pub returns-then-not-back_step-clause-back : goal.returns-then-not-back_step-clause-back
returns-then-not-back_step-clause-back g c =
    let k = circuit g.E.Element.table c.args.self.now in
    let stays : c.loop-made.config ≡ back k c.loop-made.config 1 =
    sym c.if-not-back_step.ensures.kept ∙ c.back_step.ensures.back in
    c.if-not-back_step.ensures.kept ∙ back_rests k c.args.config.now c.loop-made.config c.loop-made.made c.args.e
    c.loop-made.invariant.2 stays (omega (arith, c.loop-made-test.true))

pub returns-then-not-back_step-clause-undone : goal.returns-then-not-back_step-clause-undone
returns-then-not-back_step-clause-undone g c =
    ap (λ x. run (circuit g.E.Element.table c.args.self.now) x c.loop-made.made) c.if-not-back_step.ensures.kept
    ∙ Reaches-run (circuit g.E.Element.table c.args.self.now) c.loop-made.made c.loop-made.config c.args.config.now
    c.loop-made.invariant.0

pub loop-made-preserved : goal.loop-made-preserved
loop-made-preserved g c = (
  runs_join (Goes (circuit g.E.Element.table c.args.self.now)) (c.loop-made.made + 1) 1 c.loop-made.made
      c.back_step.new.config c.loop-made.config c.args.config.now (omega arith)
      (c.loop-made.config, c.if-not-back_step.ensures.made, refl) c.loop-made.invariant.0,
  c.back_step.ensures.good,
  c.back_step.ensures.back
      ∙ ap (λ x. back (circuit g.E.Element.table c.args.self.now) x 1) c.loop-made.invariant.2
      ∙ sym (back_composes (circuit g.E.Element.table c.args.self.now) c.args.config.now c.loop-made.made 1
      (c.loop-made.made + 1) refl),
)

pub returns-clause-back : goal.returns-clause-back
returns-clause-back g c =
    let all : c.loop-made.made ≡ c.args.e = omega (arith, c.loop-made-test.false, c.loop-made.auto.made-end) in
    c.loop-made.invariant.2 ∙ ap (λ n. back (circuit g.E.Element.table c.args.self.now) c.args.config.now n) all

pub returns-clause-undone : goal.returns-clause-undone
returns-clause-undone g c =
    let all : c.loop-made.made ≡ c.args.e = omega (arith, c.loop-made-test.false, c.loop-made.auto.made-end) in
    ap (λ n. run (circuit g.E.Element.table c.args.self.now) c.loop-made.config n) (sym all)
    ∙ Reaches-run (circuit g.E.Element.table c.args.self.now) c.loop-made.made c.loop-made.config c.args.config.now
    c.loop-made.invariant.0

pub returns-then-not-back_step-clause-ended : goal.returns-then-not-back_step-clause-ended
returns-then-not-back_step-clause-ended g c = λ fewer. subst (IsFirst (circuit g.E.Element.table c.args.self.now))
    (sym c.if-not-back_step.ensures.kept) c.if-not-back_step.ensures.first
