use Rattle.std.proofs.Common.{◌≡◌}
use Rattle.bn_network_text.specs.Drafting.{IsFed}
use Rattle.bn_network_text.proofs.WireLemmas.{AreJoined}
use Rattle.bn_network_text.proofs.draft.Draft.connect_all.Given as goal

abbrev pub invariant-loop-index : goal.invariant-loop-index
invariant-loop-index l = record {
  modules : l.self.modules ≡ l.fn.self.modules;
  fed : IsFed l.self.wires.items l.self.fed;
  joined : AreJoined l.shapes l.page.says l.number l.fn.self.wires.items l.targets l.index l.self.wires.items;
}
