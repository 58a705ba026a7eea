use Rattle.std.proofs.Common.{◌≡◌, ◌++◌, take}
use Rattle.bn_reply_circuits.specs.PlanReply.{wire_lines}
use Rattle.bn_reply_circuits.proofs.plan_text.push_wires.Given as goal

abbrev pub invariant-loop-wire : goal.invariant-loop-wire
invariant-loop-wire l = l.text.items ≡ l.initial.text.items ++ wire_lines (take l.wire-index l.wires)
