use Rattle.std.proofs.Common.{◌≡◌, ◌++◌, ◌*◌, List, length, take}
use Rattle.bn_circuits.specs.declared.line.Wire.{Wire}
use Rattle.bn_netlist.specs.Drafting.{IsFed}
use Rattle.bn_netlist.proofs.draft.Draft.mark.Given as goal

abbrev pub invariant-loop-index : goal.invariant-loop-index
invariant-loop-index l = record {
  drawn : l.self.drawn ≡ l.initial.self.drawn;
  size : length l.self.fed.items ≡ 4 * l.count;
  marked : (ws : List Wire) → IsFed l.count ws l.initial.self.fed.items
      → IsFed l.count (ws ++ take l.index l.wires) l.self.fed.items;
}
