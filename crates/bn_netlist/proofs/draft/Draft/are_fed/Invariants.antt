use Rattle.std.proofs.Common.{◌≡◌, List, false, take}
use Rattle.std.specs.Prelude.{is_some}
use Rattle.bn_circuits.specs.Circuits.{source}
use Rattle.bn_circuits.specs.declared.line.Wire.{Wire}
use Rattle.bn_netlist.specs.Drafting.{IsFed}
use Rattle.bn_netlist_laws.specs.Faults.{some_wire}
use Rattle.bn_netlist.proofs.draft.Draft.are_fed.Given as goal

abbrev pub invariant-loop-index : goal.invariant-loop-index
invariant-loop-index l = (ws : List Wire) → IsFed l.count ws l.self.fed.items
    → some_wire (λ w. is_some (source ws w.to)) (take l.index l.wires) ≡ false
