use Rattle.bn_circuits.specs.RotaryNets.{rotary_circuit}
use Rattle.bn_leap.proofs.EntryLemmas.{stopped-longest}
use Rattle.bn_leap.proofs.run.run_leaping.Goals as goal

pub returns-clause-ran : goal.returns-clause-ran
returns-clause-ran g c =
    stopped-longest (rotary_circuit c.args.packed.now.net) c.args.e c.leap_until.result c.args.packed.now.config
    c.leap_until.new.packed.config c.requires.way.board.circuit c.leap_until.ensures.ran
