use Rattle.std.proofs.Common.{◌+◌, sym, subst}
use Rattle.bn_circuits.specs.Wirings.{AreFitting}
use Rattle.bn_circuits.specs.RotaryNets.{IsNetOf}
use Rattle.bn_column.proofs.LadderLemmas.{column-AreFitting, net-IsColumnNet}
use Rattle.bn_column.proofs.make.column.Goals as goal

pub rotary_net-requires-clause-fitting : goal.rotary_net-requires-clause-fitting
rotary_net-requires-clause-fitting c = subst (AreFitting (c.args.rows + 1)) (sym c.as_slice.ensures.value)
    (column-AreFitting c.args.rows c.in_ok-wires.wires.items c.in_ok-wires.ensures.wires)

pub of-requires-clause-column : goal.of-requires-clause-column
of-requires-clause-column c = net-IsColumnNet c.in_ok-net.net c.args.rows c.in_ok-wires.wires.items
    c.in_ok-wires.ensures.wires (subst (IsNetOf c.in_ok-net.net (c.args.rows + 1)) c.as_slice.ensures.value
    c.in_ok-net.ensures.net)
