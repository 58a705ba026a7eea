use Rattle.std.proofs.Common.{◌≡◌, ◌-◌, ◌++◌}
use Rattle.bn_gen.specs.Increments as list
use Rattle.bn_gen.proofs.rounds.add_rounds.Given as goal

abbrev pub invariant-loop-round : goal.invariant-loop-round
invariant-loop-round l = l.quints.items ≡ l.initial.quints.items ++ list.rounds (l.round - 1)
