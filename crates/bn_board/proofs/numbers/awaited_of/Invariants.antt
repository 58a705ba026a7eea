use Rattle.std.proofs.Common.{◌≡◌, All, take}
use Rattle.bn_control.specs.Controlled.{IsTapeAwaited}
use Rattle.bn_board.proofs.numbers.awaited_of.Given as goal

abbrev pub invariant-loop-state : goal.invariant-loop-state
invariant-loop-state l = record {
  so_far : l.awaited.items ≡ take l.state l.control.awaited;
  tapes : All IsTapeAwaited l.awaited.items;
}
