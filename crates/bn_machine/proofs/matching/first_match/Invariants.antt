use Rattle.std.proofs.Common.{suc}
use Rattle.bn_machine.specs.Machine.{Matches}
use Rattle.bn_lists.specs.Lists.{AllBefore}
use Rattle.bn_machine.proofs.matching.first_match.Given as goal

abbrev pub invariant-loop-quint : goal.invariant-loop-quint
invariant-loop-quint l = AllBefore (λ q. Matches q l.state l.symbol → ⊥) l.quints (suc l.quint-index)
