-- No mark stands before this place, at which a line begins.
use Rattle.std.proofs.Common.{◌-◌, ◌≤◌, take, drop, length}
use Rattle.bn_base.proofs.CutLemmas.{IsLooked}
use Rattle.bn_base.proofs.cut.cut_input.Given as goal

abbrev pub invariant-loop-begin : goal.invariant-loop-begin
invariant-loop-begin l = record {
  within : l.begin ≤ length l.bytes;
  looked : IsLooked l.bytes (take l.begin l.bytes) (drop l.begin l.bytes);
}

abbrev pub decreases-loop-begin : goal.decreases-loop-begin
decreases-loop-begin l = length l.bytes - l.begin
