use Rattle.std.proofs.Common.{arith, ◌/◌, ◌%◌, ◌-◌}
use Rattle.bn_plan.proofs.CircuitLemmas.{has_outputs, has_inputs}
use Rattle.bn_plan.proofs.positions.wire_from.Goals as goal

pub wire_out_of-requires-clause-output : goal.wire_out_of-requires-clause-output
wire_out_of-requires-clause-output c = has_outputs c.args.net.now.elements (c.args.position / 8) (c.args.position % 8)
    (omega (arith, c.requires.position)) c.if-line-lt-OUTPUTS.true

pub wire_into-requires-clause-input : goal.wire_into-requires-clause-input
wire_into-requires-clause-input c = has_inputs c.args.net.now.elements (c.args.position / 8) (c.args.position % 8 - 4)
    (omega (arith, c.requires.position)) (omega arith)
