use Rattle.std.proofs.Common.{All, take}
use Rattle.bn_quad.specs.Quadruples.{Quadruples}
use Rattle.bn_control.specs.Controlled.{IsTapeAwaited}
use Rattle.bn_control.specs.Made.{IsDraft, AreAwaited}
use Rattle.bn_control.proofs.draft.Draft.awaited.Given as goal

abbrev pub invariant-loop-state : goal.invariant-loop-state
invariant-loop-state l = record {
  awaited : (m : Quadruples) → IsDraft m l.self → AreAwaited m (take l.state-index l.self.states.items) l.awaited.items;
  tapes : All IsTapeAwaited l.awaited.items;
}
