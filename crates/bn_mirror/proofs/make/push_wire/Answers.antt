use Rattle.std.proofs.Common.{◌+◌, ◌*◌, refl, sym, subst}
use Rattle.bn_netlist.proofs.NetLemmas.{output_there}
use Rattle.bn_mirror.specs.Listing.{IsListing}
use Rattle.bn_mirror.proofs.ListingLemmas.{none_more, one_more}
use Rattle.bn_mirror.proofs.make.push_wire.Goals as goal

pub target-requires : goal.target-requires
target-requires c = output_there c.args.net.now.elements c.args.element c.args.line c.requires.there c.requires.line

pub returns-in-None : goal.returns-in-None
returns-in-None c =
    none_more c.args.net.now c.in-None.ensures.circuit (4 * c.args.element + c.args.line) c.args.wires.now.items
    (record { element = c.args.element; line = c.args.line })
    c.requires.listed c.requires.line refl (sym c.in-None.ensures.line)

pub returns-in_ok-push-in-Some : goal.returns-in_ok-push-in-Some
returns-in_ok-push-in-Some c =
    subst (IsListing c.args.net.now.wires (4 * c.args.element + c.args.line + 1))
    (sym c.in_ok-push-in-Some.ensures.items)
    (one_more c.args.net.now c.in-Some.ensures.circuit (4 * c.args.element + c.args.line) c.args.wires.now.items
    (record { element = c.args.element; line = c.args.line }) c.in-Some.to
    (record { from = c.mirrored_line.result; to = c.mirrored_line-in-Some.result }) c.requires.listed c.requires.line
    refl (sym c.in-Some.ensures.line) c.mirrored_line.ensures c.mirrored_line-in-Some.ensures)
