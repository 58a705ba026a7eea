use Rattle.std.proofs.Common.{◌≤◌, ◌*◌}
use Rattle.bn_control.specs.Shown.{IsCount, IsShownBefore}
use Rattle.bn_control.proofs.count.shown_count.Given as goal

abbrev pub invariant-loop-index : goal.invariant-loop-index
invariant-loop-index l = IsCount (IsShownBefore l.quads l.index) l.count × (l.count ≤ 9 * l.index)
