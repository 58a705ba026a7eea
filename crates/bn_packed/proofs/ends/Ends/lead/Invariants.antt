use Rattle.std.proofs.Common.{◌≡◌}
use Rattle.bn_packed.proofs.DraftLemmas.{AreAdded}
use Rattle.bn_packed.proofs.ends.Ends.lead.Given as goal

abbrev pub invariant-loop-wire : goal.invariant-loop-wire
invariant-loop-wire g l = record {
  elements : l.self.elements ≡ l.fn.self.elements;
  added : AreAdded l.fn.self.elements l.fn.self l.wires l.wire-index l.self;
}
