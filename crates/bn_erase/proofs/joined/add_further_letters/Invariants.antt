use Rattle.std.proofs.Common.{◌≡◌, ◌++◌, filter, not, take}
use Rattle.bn_erase.proofs.JointLemmas.{is_among}
use Rattle.bn_erase.proofs.joined.add_further_letters.Given as goal

abbrev pub invariant-loop-letter : goal.invariant-loop-letter
invariant-loop-letter l = l.letters.items ≡ l.initial.letters.items
    ++ filter (λ letter. not (is_among l.first.letters letter)) (take l.letter-index l.more)
