-- The first that holds is among those that are left.
use Rattle.std.proofs.Common.{◌≡◌}
use Rattle.bn_session.specs.Breakpoints.{first_label}
use Rattle.bn_session.specs.Kept.{kept_breaks, HaveValues}
use Rattle.bn_session.proofs.breaks.first_held.Given as goal

abbrev pub invariant-loop-label : goal.invariant-loop-label
invariant-loop-label l =
    (goal.iterator-loop-label).can_next l.label-iterator
    × (goal.iterator-loop-label).is_finite l.label-iterator
    × HaveValues l.conditions l.label-iterator
    × (first_label l.place l.moment (kept_breaks l.conditions l.keys.entries)
    ≡ first_label l.place l.moment (kept_breaks l.conditions l.label-iterator))
