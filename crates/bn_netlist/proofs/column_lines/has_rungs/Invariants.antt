use Rattle.std.proofs.Common.{◌≡◌, true}
use Rattle.bn_netlist_laws.specs.Columns.{lead_all, rungs}
use Rattle.bn_netlist.proofs.column_lines.has_rungs.Given as goal

abbrev pub invariant-loop-row : goal.invariant-loop-row
invariant-loop-row g l = lead_all (g.C.Spellable.spelling l.config).wires (rungs l.first l.row) ≡ true
