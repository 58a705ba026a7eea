use Rattle.std.proofs.Common.{◌-◌, map}
use Rattle.std.specs.List.{range_with_len}
use Rattle.bn_bennett_laws.specs.List.{copies_letter}
use Rattle.bn_bennett.specs.Draft.{Grows}
use Rattle.bn_bennett.proofs.listing.add_copied_letters.Given as goal

abbrev pub invariant-loop-x : goal.invariant-loop-x
invariant-loop-x l = Grows l.initial.draft (map (copies_letter l.n) (range_with_len 1 (l.x - 1))) l.draft
