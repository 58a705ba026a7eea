use Rattle.std.proofs.Common.{◌∙◌, sym, subst, ap}
use Rattle.bn_element.specs.declared.rotary.Rotary.{Rotary}
use Rattle.bn_circuits.specs.Order.{AreInOrder}
use Rattle.bn_circuits.specs.Parts.{Parts}
use Rattle.bn_circuits.specs.RotaryNets.{IsNetOf}
use Rattle.bn_packed.specs.Ends.{AreTargets, targets_by, net_of}
use Rattle.bn_packed.specs.Ways.{Ways}
use Rattle.bn_packed.proofs.ListedLemmas.{listed-AreTargets, listed-IsNetOf, ends-AreInOrder}
use Rattle.bn_packed.proofs.wires.Wires.from_draft.Goals as goal

pub from_ahead-requires : goal.from_ahead-requires
from_ahead-requires c =
    let drawn = c.requires.1 in
    subst AreTargets (sym c.into_ends.ensures.same)
    (listed-AreTargets c.args.draft.elements c.requires.0 c.args.draft c.into_ends.ensures.few drawn.apart drawn.fitting
    drawn.ends)

pub returns-clause-net : goal.returns-clause-net
returns-clause-net c = λ ws drawn.
    subst (λ n. IsNetOf n c.args.draft.elements ws)
    (sym (ap (λ (w : Ways). w.net) c.in_ok-wiring.ensures.wires
    ∙ ap (λ e. net_of (targets_by e)) c.into_ends.ensures.same))
    (listed-IsNetOf c.args.draft.elements ws c.args.draft drawn.fitting drawn.ends)

pub returns-clause-order : goal.returns-clause-order
returns-clause-order c =
    subst (λ (n : Parts Rotary). AreInOrder n.wires) (sym (ap (λ (w : Ways). w.net) c.in_ok-wiring.ensures.wires))
    (ends-AreInOrder (targets_by c.into_ends.result))
