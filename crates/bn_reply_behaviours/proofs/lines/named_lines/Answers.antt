use Rattle.std.proofs.Common.{subst}
use Rattle.bn_circuits.specs.RotaryNets.{rotary_circuit}
use Rattle.bn_reply_behaviours.specs.NamedPorts.{names_in, wrong_input, wrong_output}
use Rattle.bn_reply_behaviours.specs.Replying.{IsNaming}
use Rattle.bn_reply_behaviours.specs.declared.side.Side.TheVariants.{Input, Output}
use Rattle.bn_reply_behaviours.proofs.lines.named_lines.Goals as goal

pub returns-in-Misnamed : goal.returns-in-Misnamed
returns-in-Misnamed c = (
  c.in_ok-wrong_input-in-Misnamed.ensures.status,
  wrong_input c.in-Misnamed.place
      (subst (IsNaming (rotary_circuit c.args.net.now) Input (names_in c.args.names.inputs.now)) c.in-Misnamed.is
      c.in_ok-ports.ensures) c.in_ok-wrong_input-in-Misnamed.ensures.text,
)

pub returns-in-Misnamed-2 : goal.returns-in-Misnamed-2
returns-in-Misnamed-2 c = (
  c.in_ok-wrong_output-in-Misnamed-2.ensures.status,
  wrong_output c.in-Named.ports c.in-Misnamed-2.place
      (subst (IsNaming (rotary_circuit c.args.net.now) Input (names_in c.args.names.inputs.now)) c.in-Named.is
      c.in_ok-ports.ensures)
      (subst (IsNaming (rotary_circuit c.args.net.now) Output (names_in c.args.names.outputs.now)) c.in-Misnamed-2.is
      c.in_ok-ports-2.ensures) c.in_ok-wrong_output-in-Misnamed-2.ensures.text,
)
