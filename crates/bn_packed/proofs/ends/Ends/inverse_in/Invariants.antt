use Rattle.std.proofs.Common.{◌≡◌}
use Rattle.bn_packed.specs.Ends.{AreReversed}
use Rattle.bn_packed.proofs.ends.Ends.inverse_in.Given as goal

abbrev pub invariant-loop-place : goal.invariant-loop-place
invariant-loop-place g l = AreReversed l.self.ends l.place l.ends.ends × (l.ends.elements ≡ l.self.elements)
