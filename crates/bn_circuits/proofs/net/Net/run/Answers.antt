use Rattle.std.proofs.Common.{◌≡◌, ◌+◌, refl, sym, ap, subst, ◌∙◌, arith}
use Rattle.bn_lists.proofs.RunsLemmas.{runs_more}
use Rattle.bn_circuits.specs.Circuits.{Goes, IsStuck}
use Rattle.bn_circuits.specs.Stepping.{back}
use Rattle.bn_circuits.proofs.RunLemmas.{run_stops, back-zero, back_composes}
use Rattle.bn_circuits.specs.Parts.{circuit}
use Rattle.bn_circuits.proofs.net.Net.run.Goals as goal

pub loop-made-init : goal.loop-made-init
loop-made-init g c = (
  refl,
  c.requires,
  back-zero (circuit g.E.Element.table c.args.self.now) c.args.config.now,
)

pub returns-then-not-step-clause-run : goal.returns-then-not-step-clause-run
returns-then-not-step-clause-run g c =
    c.if-not-step.ensures.kept ∙ sym (run_stops (circuit g.E.Element.table c.args.self.now) c.loop-made.made c.args.e
    c.args.config.now c.loop-made.config c.loop-made.invariant.0 (omega (arith, c.loop-made-test.true))
    (λ _. c.if-not-step.ensures.stuck))

pub returns-then-not-step-clause-undone : goal.returns-then-not-step-clause-undone
returns-then-not-step-clause-undone g c =
    ap (λ x. back (circuit g.E.Element.table c.args.self.now) x c.loop-made.made) c.if-not-step.ensures.kept
    ∙ c.loop-made.invariant.2

pub loop-made-preserved : goal.loop-made-preserved
loop-made-preserved g c = (
  runs_more (Goes (circuit g.E.Element.table c.args.self.now)) c.loop-made.made c.args.config.now c.loop-made.config
      c.step.new.config c.loop-made.invariant.0 c.if-not-step.ensures.made,
  c.step.ensures.good,
  back_composes (circuit g.E.Element.table c.args.self.now) c.step.new.config 1 c.loop-made.made (c.loop-made.made + 1)
      (omega arith)
      ∙ ap (λ x. back (circuit g.E.Element.table c.args.self.now) x c.loop-made.made) c.if-not-step.ensures.undone
      ∙ c.loop-made.invariant.2,
)

pub returns-clause-run : goal.returns-clause-run
returns-clause-run g c =
    sym (run_stops (circuit g.E.Element.table c.args.self.now) c.loop-made.made c.args.e c.args.config.now
    c.loop-made.config c.loop-made.invariant.0 c.loop-made.auto.made-end
    (λ fewer. absurd (omega (arith, c.loop-made-test.false))))

pub returns-clause-undone : goal.returns-clause-undone
returns-clause-undone g c =
    let all : c.loop-made.made ≡ c.args.e = omega (arith, c.loop-made-test.false, c.loop-made.auto.made-end) in
    ap (λ n. back (circuit g.E.Element.table c.args.self.now) c.loop-made.config n) (sym all)
    ∙ c.loop-made.invariant.2

pub returns-then-not-step-clause-ended : goal.returns-then-not-step-clause-ended
returns-then-not-step-clause-ended g c = λ fewer. subst (IsStuck (circuit g.E.Element.table c.args.self.now))
    (sym c.if-not-step.ensures.kept) c.if-not-step.ensures.stuck
