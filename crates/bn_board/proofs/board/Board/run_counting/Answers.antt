use Rattle.std.proofs.Common.{rules, inl, inr, ◌≡◌, ◌<◌, ◌+◌, ◌-◌, arith, subst, refl}
use Rattle.bn_circuits.specs.Circuits.{IsStuck}
use Rattle.bn_circuits.specs.RotaryNets.{rotary_circuit}
use Rattle.bn_boards.specs.Layouts.{is_moment}
use Rattle.bn_board.specs.Moments.{AreFirstRows}
use Rattle.bn_board.proofs.CountingLemmas.{IsTallied, counted_none, counted_leap, counted_still, counted_all}
use Rattle.bn_board.proofs.board.Board.run_counting.Given.{Over}
use Rattle.bn_board.proofs.board.Board.run_counting.Goals as goal

pub loop-made-init : goal.loop-made-init
loop-made-init g c = record {
  counted = counted_none c.args.self.now (g.W.Watch.told c.args.watch.now) c.layout.ensures.kept;
  within = omega arith;
}

pub count_moment-moments-requires : goal.count_moment-moments-requires
count_moment-moments-requires g c = let few = c.loop-made.invariant.counted.tallied.few in let within =
    c.loop-made.invariant.within in omega arith

stopped : (g : Over) (c : goal.Then-steps-eq0 g)
    → IsTallied (is_moment c.args.self.now.layout) (rotary_circuit c.args.self.now.net) c.args.self.now.config
    c.run_until-steps.new.self.config c.args.e c.loop-made.moments
    (g.W.Watch.told c.args.watch.now) (g.W.Watch.told c.run_until-steps.new.watch)
stopped g c =
    let run = c.run_until-steps.ensures in
    let none : c.run_until-steps.result ≡ 0 = search rules in
    let some : 0 < c.args.e - c.loop-made.made = (let more = c.loop-made-test.true in omega arith) in
    let stuck : IsStuck (rotary_circuit c.loop-made.self.net) c.loop-made.self.config =
    elim (run.ran.moves some) [ inl made ↦ absurd (omega arith) | inr end ↦ end ] in
    counted_still c.args.self.now c.loop-made.self c.run_until-steps.new.self c.run_until-steps.result c.loop-made.made
    c.loop-made.moments c.args.e
    (g.W.Watch.told c.args.watch.now) (g.W.Watch.told c.loop-made.watch) (g.W.Watch.told c.run_until-steps.new.watch)
    c.loop-made.invariant.counted run.same none run.ran.made run.told c.loop-made.invariant.within stuck

pub returns-then-steps-eq0-clause-moments : goal.returns-then-steps-eq0-clause-moments
returns-then-steps-eq0-clause-moments g c = (stopped g c).counted

pub returns-then-steps-eq0-clause-run : goal.returns-then-steps-eq0-clause-run
returns-then-steps-eq0-clause-run g c = (stopped g c).ran

pub returns-then-steps-eq0-clause-told : goal.returns-then-steps-eq0-clause-told
returns-then-steps-eq0-clause-told g c = (stopped g c).told

pub loop-made-preserved : goal.loop-made-preserved
loop-made-preserved g c =
    let run = c.run_until-steps.ensures in
    let rows : AreFirstRows c.args.self.now.layout c.first_rows-rows.result =
    subst (λ b. AreFirstRows b c.first_rows-rows.result) c.layout.ensures.layout c.first_rows-rows.ensures in
    let some : 0 < c.run_until-steps.result = search rules in
    record {
      counted = counted_leap c.args.self.now c.loop-made.self c.run_until-steps.new.self c.first_rows-rows.result
          c.run_until-steps.result c.loop-made.made (c.loop-made.made + c.run_until-steps.result)
          c.loop-made.moments c.count_moment-moments.result (g.W.Watch.told c.args.watch.now)
          (g.W.Watch.told c.loop-made.watch) (g.W.Watch.told c.run_until-steps.new.watch)
          c.layout.ensures.kept c.loop-made.invariant.counted run.same run.kept rows some run.ran.between run.told refl
          c.count_moment-moments.ensures;
      within = (let most = run.ran.bound in let before = c.loop-made.invariant.within in omega arith);
    }

ended : (g : Over) (c : goal.After-loop-made g)
    → IsTallied (is_moment c.args.self.now.layout) (rotary_circuit c.args.self.now.net) c.args.self.now.config
    c.loop-made.self.config c.args.e c.loop-made.moments
    (g.W.Watch.told c.args.watch.now) (g.W.Watch.told c.loop-made.watch)
ended g c =
    counted_all c.args.self.now c.loop-made.self c.loop-made.made c.loop-made.moments c.args.e
    (g.W.Watch.told c.args.watch.now)
    (g.W.Watch.told c.loop-made.watch) c.loop-made.invariant.counted c.loop-made.invariant.within
    (λ fewer. absurd (let h = c.loop-made-test.false in omega arith))

pub returns-clause-run : goal.returns-clause-run
returns-clause-run g c = (ended g c).ran

pub returns-clause-moments : goal.returns-clause-moments
returns-clause-moments g c = (ended g c).counted

pub returns-clause-told : goal.returns-clause-told
returns-clause-told g c = (ended g c).told
