use Rattle.std.proofs.Common.{ap, ◌∙◌}
use Rattle.bn_circuits.specs.Stepping.{run}
use Rattle.bn_column.proofs.CrossLemmas.{crossing_ran}
use Rattle.bn_circuits.specs.RotaryNets.{rotary_circuit}
use Rattle.bn_column.proofs.cross.cross_in.Goals as goal

pub returns-clause-crossed : goal.returns-clause-crossed
returns-clause-crossed c = crossing_ran (rotary_circuit c.args.net.now) c.args.first c.args.rows c.in-Enter.element
    c.in-Enter.line c.get-marked.result c.run.result c.args.config.now c.run.new.config c.requires.column
    c.requires.entering c.in-Enter.is c.get-marked.ensures (c.run.ensures.run
    ∙ ap (run (rotary_circuit c.args.net.now) c.args.config.now) c.cost.ensures) c.run.ensures.made
