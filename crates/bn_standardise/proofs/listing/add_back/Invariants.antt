use Rattle.std.proofs.Common.{◌≡◌, ◌++◌, ◌-◌}
use Rattle.bn_standardise.specs.Rules.{back_over_all}
use Rattle.bn_standardise.proofs.listing.add_back.Given as goal

abbrev pub invariant-loop-letter : goal.invariant-loop-letter
invariant-loop-letter l = l.list.items ≡ l.initial.list.items ++ back_over_all l.halt 1 (l.letter - 1)
