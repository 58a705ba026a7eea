use Rattle.std.proofs.Common.{drop, reverse}
use Rattle.std.specs.List.{flat_map}
use Rattle.bn_bennett_laws.specs.List.{retrace_pair, numbered_quints}
use Rattle.bn_bennett.specs.Draft.{Grows}
use Rattle.bn_bennett.proofs.listing.add_retrace.Given as goal

abbrev pub invariant-loop-index : goal.invariant-loop-index
invariant-loop-index l = Grows l.initial.draft (flat_map retrace_pair
    (reverse (drop l.index (numbered_quints l.quints)))) l.draft
