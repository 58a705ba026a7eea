use Rattle.std.proofs.Common.{◌≤◌, ◌+◌, ◌*◌, length}
use Rattle.bn_control.proofs.MovesSoFar.{AreMovesSoFar}
use Rattle.bn_control.proofs.named.named_moves.Given as goal

abbrev pub invariant-loop-index : goal.invariant-loop-index
invariant-loop-index l = record {
  moves : AreMovesSoFar l.machine l.index l.moves.items;
  few : length l.moves.items ≤ 1 + 9 * l.index;
}
