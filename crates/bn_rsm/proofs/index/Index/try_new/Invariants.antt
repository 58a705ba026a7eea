use Rattle.bn_rsm.proofs.SoundLemmas.{AreIndexed}
use Rattle.bn_rsm.proofs.index.Index.try_new.Given as goal

abbrev pub invariant-loop-n : goal.invariant-loop-n
invariant-loop-n l = AreIndexed l.states l.lines l.index.from l.index.to l.moves l.n
