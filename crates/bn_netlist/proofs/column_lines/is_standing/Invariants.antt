use Rattle.std.proofs.Common.{◌≡◌, true}
use Rattle.bn_netlist_laws.specs.Columns.{are_upright}
use Rattle.bn_netlist.proofs.column_lines.is_standing.Given as goal

abbrev pub invariant-loop-row : goal.invariant-loop-row
invariant-loop-row g l = are_upright (g.C.Spellable.spelling l.config).config.states l.first l.row ≡ true
