use Rattle.std.proofs.Common.{◌≡◌, map, take}
use Rattle.bn_erase.specs.Recoded.{recoded_quint}
use Rattle.bn_erase.proofs.JoinedLemmas.{code_among}
use Rattle.bn_erase.proofs.joined.recoded_quints.Given as goal

abbrev pub invariant-loop-quint : goal.invariant-loop-quint
invariant-loop-quint l = l.made.items ≡ map (recoded_quint (code_among l.letters l.table.letters))
    (take l.quint-index l.quints)
