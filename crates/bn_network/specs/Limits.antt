-- The limits of a run that a caller may request (own to this project).
use Rattle.std.specs.Prelude.{◌≤◌}
use Rattle.bn_base.specs.declared.limits.TheConstants.{MOST_COUNT}
use Rattle.bn_machine.specs.Outcome.{Limits}

-- each of the limits is at most 2^20
abbrev pub AreSmall : Limits → Type 0
AreSmall l = (l.left ≤ MOST_COUNT) × (l.right ≤ MOST_COUNT) × (l.steps ≤ MOST_COUNT) × (l.output ≤ MOST_COUNT)
