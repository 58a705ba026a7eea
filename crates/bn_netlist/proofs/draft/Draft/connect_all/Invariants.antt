use Rattle.std.proofs.Common.{◌+◌, List}
use Rattle.bn_circuits.specs.declared.line.Wire.{Wire}
use Rattle.bn_netlist_laws.specs.Reading.{named_targets}
use Rattle.bn_netlist.specs.Drafting.{AreKept, IsSized}
use Rattle.bn_netlist.proofs.ConnectLemmas.{IsConnected}
use Rattle.bn_netlist.proofs.draft.Draft.connect_all.Given as goal

abbrev pub invariant-loop-index : goal.invariant-loop-index
invariant-loop-index l = record {
  sized : IsSized l.header.count l.self.drawn l.self.fed.items;
  so_far : (ws : List Wire) → AreKept l.header.count ws l.initial.self.drawn l.initial.self.fed.items
      → IsConnected l.header l.element l.output (named_targets l.targets) ws l.self.drawn l.self.fed.items l.index
      (l.output + l.index);
}
