use Rattle.std.proofs.Common.{◌≡◌}
use Rattle.bn_lists.specs.Runs.{Reaches}
use Rattle.bn_circuits.specs.Circuits.{Goes, IsConfig}
use Rattle.bn_circuits.specs.Stepping.{back}
use Rattle.bn_circuits.specs.Parts.{circuit}
use Rattle.bn_circuits.proofs.net.Net.run.Given as goal

abbrev pub invariant-loop-made : goal.invariant-loop-made
invariant-loop-made g l = Reaches (Goes (circuit g.E.Element.table l.self)) l.made l.fn.config l.config
    × IsConfig (circuit g.E.Element.table l.self) l.config
    × (back (circuit g.E.Element.table l.self) l.config l.made ≡ l.fn.config)
