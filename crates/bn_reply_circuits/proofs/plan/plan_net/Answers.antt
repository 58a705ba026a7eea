use Rattle.std.proofs.Common.{◌∙◌, ap}
use Rattle.bn_plan.proofs.CircuitLemmas.{net_rotary, net_wires}
use Rattle.bn_reply_circuits.specs.PlanReply.{plan_text}
use Rattle.bn_reply_circuits.proofs.PlanTextLemmas.{floor_lines}
use Rattle.bn_reply_circuits.proofs.plan.plan_net.Goals as goal

pub plan_text-requires : goal.plan_text-requires
plan_text-requires c = floor_lines c.args.net.now.wires c.in_ok-plan.plan
    (net_rotary c.args.net.now c.len.ensures.circuit c.len.ensures.order) c.in_ok-plan.ensures

pub returns-clause-text : goal.returns-clause-text
returns-clause-text c = record {
  wires = c.args.net.now.wires;
  listed = net_wires c.args.net.now.wires c.len.ensures.order;
  plan = c.in_ok-plan.plan;
  floor = c.in_ok-plan.ensures;
  written = c.in_ok-plan_text.ensures ∙ ap (λ n. plan_text n c.in_ok-plan.plan) c.len.ensures.number;
}
