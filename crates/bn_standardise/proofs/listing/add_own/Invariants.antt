use Rattle.std.proofs.Common.{◌≡◌, ◌++◌, map, take}
use Rattle.bn_standardise.specs.Rules.{own_rule}
use Rattle.bn_standardise.proofs.listing.add_own.Given as goal

abbrev pub invariant-loop-quint : goal.invariant-loop-quint
invariant-loop-quint l = l.list.items ≡ l.initial.list.items ++ map own_rule (take l.quint-index l.quints)
