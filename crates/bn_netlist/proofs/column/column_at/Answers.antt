use Rattle.std.proofs.Common.{ℕ, List, ap, sym, subst}
use Rattle.std.specs.Prelude.{MatchOption}
use Rattle.bn_element.specs.Rotary.{rotary}
use Rattle.bn_element.specs.Tables.{Table}
use Rattle.bn_circuits.specs.Circuits.{Circuit}
use Rattle.bn_netlist_laws.specs.Columns.{IsColumnAt}
use Rattle.bn_netlist.proofs.NetLemmas.{map-replicate}
use Rattle.bn_netlist.proofs.column.column_at.Goals as goal

pub returns : goal.returns
returns c =
    let with_tables : List Table → Circuit = λ ts. record { tables = ts; wires = c.args.net.now.wires } in
    let same = ap with_tables (map-replicate rotary c.args.net.now.elements) in
    subst (λ (k : Circuit). MatchOption c.column_rows.result ((n : ℕ) → IsColumnAt k c.args.states.now c.args.element n
    → ⊥) (IsColumnAt k c.args.states.now c.args.element)) (sym same) c.column_rows.ensures
