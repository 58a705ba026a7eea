use Rattle.std.proofs.Common.{◌≡◌, ◌*◌, length, arith, subst}
use Rattle.bn_mirror.specs.Listing.{IsListing}
use Rattle.bn_mirror.proofs.ListingLemmas.{all_listed}
use Rattle.bn_mirror.proofs.make.mirrored_wires.Goals as goal

pub returns-clause-wires : goal.returns-clause-wires
returns-clause-wires c =
    let count = c.len-element-end.ensures.number in
    let behind = c.loop-element-test.false in
    let whole : 4 * c.loop-element.element ≡ 4 * length c.args.net.now.elements = omega (arith, count, behind) in
    all_listed c.args.net.now c.len-element-end.ensures.circuit c.loop-element.wires.items
    (subst (λ k. IsListing c.args.net.now.wires k c.loop-element.wires.items) whole c.loop-element.invariant)
