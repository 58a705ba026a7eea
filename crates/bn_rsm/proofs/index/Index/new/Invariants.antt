use Rattle.std.proofs.Common.{ℕ, take}
use Rattle.bn_rsm.specs.Machines.{AreSound}
use Rattle.bn_rsm.specs.Pairs.{AreNumbers}
use Rattle.bn_rsm.proofs.index.Index.new.Given as goal

abbrev pub invariant-loop-n : goal.invariant-loop-n
invariant-loop-n l = (states lines : ℕ) → AreSound states lines l.moves
    → AreNumbers l.index.from l.index.to (take l.n l.moves)
