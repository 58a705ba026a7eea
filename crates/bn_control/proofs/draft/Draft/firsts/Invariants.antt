use Rattle.bn_quad.specs.Quadruples.{Quadruples}
use Rattle.bn_control.specs.Made.{IsDraft, AreFirsts}
use Rattle.bn_control.proofs.draft.Draft.firsts.Given as goal

abbrev pub invariant-loop-entry : goal.invariant-loop-entry
invariant-loop-entry l = record {
  firsts : (m : Quadruples) → IsDraft m l.self → AreFirsts m l.self.states.items l.entry-index l.firsts.items;
}
