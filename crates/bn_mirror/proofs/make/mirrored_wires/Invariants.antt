use Rattle.std.proofs.Common.{◌*◌}
use Rattle.bn_mirror.specs.Listing.{IsListing}
use Rattle.bn_mirror.proofs.make.mirrored_wires.Given as goal

abbrev pub invariant-loop-element : goal.invariant-loop-element
invariant-loop-element l = IsListing l.net.wires (4 * l.element) l.wires.items
