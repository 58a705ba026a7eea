use Rattle.std.proofs.Common.{◌≤◌}
use Rattle.bn_control.specs.Shown.{IsCount, IsOpenBelow}
use Rattle.bn_control.proofs.count.open_count.Given as goal

abbrev pub invariant-loop-state : goal.invariant-loop-state
invariant-loop-state l = IsCount (IsOpenBelow l.machine l.state) l.count × (l.count ≤ l.state)
