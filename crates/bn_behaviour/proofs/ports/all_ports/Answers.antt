-- The free ports are few, and each stands once.
use Rattle.std.proofs.Common.{◌≡◌, ap, arith, length, subst, sym, ◌∙◌}
use Rattle.bn_circuits.specs.RotaryNets.{rotary_circuit}
use Rattle.bn_behaviour.specs.Explored.{StandOnce}
use Rattle.bn_behaviour.specs.FreeLines.{free_inputs, free_outputs}
use Rattle.bn_behaviour.proofs.FreeLemmas.{all_rotary, inputs_few, inputs_once, outputs_few, outputs_once}
use Rattle.bn_behaviour.proofs.AllPortLemmas.{all_are_ports}
use Rattle.bn_behaviour.proofs.ports.all_ports.Goals as goal

pub of-requires-clause-few : goal.of-requires-clause-few
of-requires-clause-few c =
    let few = inputs_few c.args.net.now.elements (rotary_circuit c.args.net.now).wires in
    let is : length c.as_slice.result.now ≡ length (free_inputs (rotary_circuit c.args.net.now)) =
    ap (λ (xs : _). length xs) (c.as_slice.ensures.value ∙ c.in_ok-inputs.ensures.lines) in
    omega (arith, few, is, c.requires)

pub of-requires-clause-once : goal.of-requires-clause-once
of-requires-clause-once c =
    subst (λ xs. StandOnce xs) (sym (c.as_slice.ensures.value ∙ c.in_ok-inputs.ensures.lines))
    (inputs_once (rotary_circuit c.args.net.now))

pub of-requires-2-clause-few : goal.of-requires-2-clause-few
of-requires-2-clause-few c =
    let few = outputs_few c.args.net.now.elements (rotary_circuit c.args.net.now).wires in
    let is : length c.as_slice-2.result.now ≡ length (free_outputs (rotary_circuit c.args.net.now)) =
    ap (λ (xs : _). length xs) (c.as_slice-2.ensures.value ∙ c.in_ok-outputs.ensures.lines) in
    omega (arith, few, is, c.requires)

pub of-requires-2-clause-once : goal.of-requires-2-clause-once
of-requires-2-clause-once c =
    subst (λ xs. StandOnce xs) (sym (c.as_slice-2.ensures.value ∙ c.in_ok-outputs.ensures.lines))
    (outputs_once (rotary_circuit c.args.net.now))

pub returns-clause-ports : goal.returns-clause-ports
returns-clause-ports c = all_are_ports (rotary_circuit c.args.net.now) (all_rotary c.args.net.now.elements) _ (record {
  inputs = c.in_ok-of.ensures ∙ c.as_slice.ensures.value ∙ c.in_ok-inputs.ensures.lines;
  outputs = c.in_ok-of-2.ensures ∙ c.as_slice-2.ensures.value ∙ c.in_ok-outputs.ensures.lines;
})
