use Rattle.std.proofs.Common.{subst}
use Rattle.std.specs.Prelude.{length}
use Rattle.bn_circuits.specs.RotaryNets.{IsNetOf}
use Rattle.bn_circuits.specs.Wirings.{AreWiresOf}
use Rattle.bn_packed.specs.CopiedWires.{IsTargetBefore}
use Rattle.bn_packed.proofs.CopiedLemmas.{told_fits, told_again}
use Rattle.bn_packed.proofs.packed.Packed.to_net.Goals as goal

pub rotary_net-requires-clause-fitting : goal.rotary_net-requires-clause-fitting
rotary_net-requires-clause-fitting c =
    rw (c.len.ensures.number, c.as_slice.ensures.value)
    (told_fits c.args.self.now.net c.len.ensures.circuit c.in_ok-wires.wires.items c.in_ok-wires.ensures.wires)

pub returns : goal.returns
returns c =
    let wires : AreWiresOf (IsTargetBefore c.args.self.now.net.wires (length c.args.self.now.net.elements) 0)
    c.as_slice.result.now =
    rw c.as_slice.ensures.value c.in_ok-wires.ensures.wires in
    let net : IsNetOf c.in_ok-net.net (length c.args.self.now.net.elements) c.as_slice.result.now =
    subst (λ n. IsNetOf c.in_ok-net.net n c.as_slice.result.now) c.len.ensures.number c.in_ok-net.ensures.net in
    told_again c.args.self.now.net c.len.ensures.circuit c.in_ok-net.net c.as_slice.result.now wires
    c.requires.order c.len-2.ensures.order net
