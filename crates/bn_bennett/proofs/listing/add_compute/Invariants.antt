use Rattle.std.proofs.Common.{take}
use Rattle.std.specs.List.{flat_map}
use Rattle.bn_bennett_laws.specs.List.{compute_pair, numbered_quints}
use Rattle.bn_bennett.specs.Draft.{Grows}
use Rattle.bn_bennett.proofs.listing.add_compute.Given as goal

abbrev pub invariant-loop-index : goal.invariant-loop-index
invariant-loop-index l = Grows l.initial.draft (flat_map compute_pair (take l.index (numbered_quints l.quints))) l.draft
