use Rattle.std.specs.Prelude.{◌≤◌, length}
use Rattle.bn_qtable.specs.TapeWords.{names_between}
use Rattle.bn_circuits.specs.RotaryNets.{rotary_circuit}
use Rattle.bn_reply_behaviours.specs.Replying.{AreNamedSoFar, IsFree}
use Rattle.bn_reply_behaviours.proofs.names.read_names.Given as goal

abbrev pub invariant-loop-comma : goal.invariant-loop-comma
invariant-loop-comma l = record {
  so_far : AreNamedSoFar (IsFree (rotary_circuit l.net) l.side) (names_between l.bytes) l.ports (names_between l.left);
  shorter : length l.left ≤ length l.bytes;
}

abbrev pub decreases-loop-comma : goal.decreases-loop-comma
decreases-loop-comma l = length l.left
