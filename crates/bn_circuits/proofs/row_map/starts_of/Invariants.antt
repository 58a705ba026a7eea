use Rattle.std.proofs.Common.{◌≡◌, ◌*◌, ◌≤◌, take}
use Rattle.bn_circuits.specs.Rows.{starts_from}
use Rattle.bn_circuits.proofs.RowLemmas.{end_from}
use Rattle.bn_circuits.proofs.row_map.starts_of.Given as goal

abbrev pub invariant-loop-width : goal.invariant-loop-width
invariant-loop-width l = (l.starts.items ≡ starts_from 0 (take l.width-index l.widths))
    × (l.total ≡ end_from 0 (take l.width-index l.widths)) × (l.total ≤ 4294967295 * l.width-index)
