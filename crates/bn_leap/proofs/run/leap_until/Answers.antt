use Rattle.std.proofs.Common.{rules, arith, ap, sym, ◌≡◌, ◌<◌, ◌∙◌, ◌+◌, ◌-◌, true, false, inl}
use Rattle.bn_circuits.specs.RotaryNets.{rotary_circuit}
use Rattle.bn_leap.proofs.EntryLemmas.{leapable_on, advance-joins, stopped-run, still-run, held_up}
use Rattle.bn_leap.proofs.run.leap_until.Goals as goal

pub advance-steps-requires-clause-banks : goal.advance-steps-requires-clause-banks
advance-steps-requires-clause-banks g c =
    leapable_on c.args.packed.now.net c.loop-made.packed.net (g.S.Stop.stops c.args.stop.now) c.args.packed.now.config
    c.loop-made.packed.config (g.B.Banks.has c.args.banks.now) c.loop-made.made c.loop-made.invariant.net c.requires
    c.loop-made.invariant.passes

pub returns-then-steps-eq0-clause-ran : goal.returns-then-steps-eq0-clause-ran
returns-then-steps-eq0-clause-ran g c =
    still-run (rotary_circuit c.args.packed.now.net) (rotary_circuit c.loop-made.packed.net)
    (g.S.Stop.stops c.args.stop.now) c.args.e c.loop-made.made c.advance-steps.result (c.args.e - c.loop-made.made)
    c.args.packed.now.config c.loop-made.packed.config c.advance-steps.new.packed.config
    (ap rotary_circuit c.loop-made.invariant.net) c.requires.way.board.circuit c.requires.good
    c.loop-made.invariant.within c.loop-made.invariant.passes c.loop-made.invariant.calm c.advance-steps.ensures.made
    (omega arith)

pub returns-then-not-goes_on-clause-ran : goal.returns-then-not-goes_on-clause-ran
returns-then-not-goes_on-clause-ran g c =
    let off : c.goes_on.result ≡ false = search rules in
    let whole =
    advance-joins (rotary_circuit c.args.packed.now.net) (rotary_circuit c.loop-made.packed.net)
    (g.S.Stop.stops c.args.stop.now) c.loop-made.made c.advance-steps.result (c.args.e - c.loop-made.made)
    c.args.packed.now.config c.loop-made.packed.config c.advance-steps.new.packed.config
    (ap rotary_circuit c.loop-made.invariant.net) c.loop-made.invariant.passes c.loop-made.invariant.calm
    c.advance-steps.ensures.made in
    let some : 0 < c.advance-steps.result = search rules in
    let bound = c.advance-steps.ensures.made.bound in
    let more = c.loop-made-test.true in
    stopped-run (rotary_circuit c.args.packed.now.net) (g.S.Stop.stops c.args.stop.now) c.args.e
    (c.loop-made.made + c.advance-steps.result) c.args.packed.now.config c.advance-steps.new.packed.config
    c.requires.way.board.circuit c.requires.good (omega arith) whole
    (λ _. held_up (rotary_circuit c.args.packed.now.net) (g.S.Stop.stops c.args.stop.now)
    c.advance-steps.new.packed.config (sym c.goes_on.ensures ∙ off))
    (λ _. inl (omega arith))

pub loop-made-preserved : goal.loop-made-preserved
loop-made-preserved g c =
    let still : c.goes_on.result ≡ true = search rules in
    let whole =
    advance-joins (rotary_circuit c.args.packed.now.net) (rotary_circuit c.loop-made.packed.net)
    (g.S.Stop.stops c.args.stop.now) c.loop-made.made c.advance-steps.result (c.args.e - c.loop-made.made)
    c.args.packed.now.config c.loop-made.packed.config c.advance-steps.new.packed.config
    (ap rotary_circuit c.loop-made.invariant.net) c.loop-made.invariant.passes c.loop-made.invariant.calm
    c.advance-steps.ensures.made in
    let bound = c.advance-steps.ensures.made.bound in
    let more = c.loop-made-test.true in
    record {
      within = omega arith;
      net = c.advance-steps.ensures.net ∙ c.loop-made.invariant.net;
      passes = whole;
      calm = λ _. sym c.goes_on.ensures ∙ still;
    }

pub returns-clause-ran : goal.returns-clause-ran
returns-clause-ran g c =
    let all = c.loop-made-test.false in
    stopped-run (rotary_circuit c.args.packed.now.net) (g.S.Stop.stops c.args.stop.now) c.args.e c.loop-made.made
    c.args.packed.now.config c.loop-made.packed.config c.requires.way.board.circuit c.requires.good
    c.loop-made.invariant.within c.loop-made.invariant.passes (λ fewer. absurd (omega arith))
    (λ some. inl (omega arith))
