use Rattle.std.proofs.Common.{length}
use Rattle.bn_packed.specs.Ends.{ahead}
use Rattle.bn_packed.proofs.ListedLemmas.{AreFirst}
use Rattle.bn_packed.proofs.wiring.ahead_of.Given as goal

abbrev pub invariant-loop-place : goal.invariant-loop-place
invariant-loop-place g l = AreFirst (ahead l.net.wires) l.place (length l.net.elements) l.ends
