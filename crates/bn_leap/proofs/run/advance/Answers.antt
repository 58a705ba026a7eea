use Rattle.std.proofs.Common.{arith}
use Rattle.bn_circuits.specs.RotaryNets.{rotary_circuit}
use Rattle.bn_leap.proofs.EntryLemmas.{run-IsAdvance}
use Rattle.bn_leap.proofs.run.advance.Goals as goal

pub returns-then-leap-saturating_sub-clause-made : goal.returns-then-leap-saturating_sub-clause-made
returns-then-leap-saturating_sub-clause-made g c =
    run-IsAdvance (rotary_circuit c.args.packed.now.net) (g.S.Stop.stops c.args.stop.now) c.args.most c.args.most
    c.run_until.result c.args.packed.now.config c.run_until.new.self.config c.run_until.ensures.ran c.requires.some
    (omega arith)

pub returns-in-None-clause-made : goal.returns-in-None-clause-made
returns-in-None-clause-made g c =
    let some = c.requires.some in
    run-IsAdvance (rotary_circuit c.args.packed.now.net) (g.S.Stop.stops c.args.stop.now) 1 c.args.most
    c.run_until-in-None.result c.args.packed.now.config c.run_until-in-None.new.self.config
    c.run_until-in-None.ensures.ran (omega arith) (omega arith)
