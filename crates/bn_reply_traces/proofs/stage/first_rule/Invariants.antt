use Rattle.std.proofs.Common.{suc}
use Rattle.bn_machine.specs.Machine.{Matches}
use Rattle.bn_lists.specs.Lists.{AllBefore}
use Rattle.bn_reply_traces.proofs.stage.first_rule.Given as goal

abbrev pub invariant-loop-index : goal.invariant-loop-index
invariant-loop-index l = AllBefore (λ q. Matches q l.state l.symbol → ⊥) l.quints (suc l.index)
