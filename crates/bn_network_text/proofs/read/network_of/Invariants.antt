use Rattle.std.proofs.Common.{◌+◌}
use Rattle.bn_network_text.specs.Drafting.{IsDraft}
use Rattle.bn_network_text.proofs.FaultLemmas.{AreClear}
use Rattle.bn_network_text.proofs.read.network_of.Given as goal

abbrev pub invariant-loop-number : goal.invariant-loop-number
invariant-loop-number l = record {
  draft : IsDraft l.page l.number l.draft.modules.items l.draft.wires.items l.draft.fed;
  clear : AreClear l.shapes l.page (l.number + 5);
}
