use Rattle.std.proofs.Common.{map, refl, ap, ◌∙◌}
use Rattle.bn_circuits.specs.Rows.{wires_of, IsWired}
use Rattle.bn_circuits.proofs.WireLemmas.{unwired-IsWired, empty_wires, view-IsCircuit}
use Rattle.bn_circuits.proofs.net.Net.unwired.Goals as goal

pub invariant_of-result : goal.invariant_of-result
invariant_of-result g c = unwired-IsWired g.E.Element.table c.args.elements.items
    c.as_slice-2.result.now c.as_slice-4.result.now c.in_ok-targets.targets c.in_ok-sources.sources c.requires
    (c.as_slice-2.ensures.value ∙ c.in_ok-outputs.ensures ∙ ap (map (λ x. (g.E.Element.table x).outputs))
    c.as_slice.ensures.value)
    (c.as_slice-4.ensures.value ∙ c.in_ok-inputs.ensures ∙ ap (map (λ x. (g.E.Element.table x).inputs))
    c.as_slice-3.ensures.value)
    c.in_ok-targets.ensures c.in_ok-sources.ensures

pub returns-clause-wires : goal.returns-clause-wires
returns-clause-wires g c = ap (wires_of 0) c.in_ok-targets.ensures ∙ empty_wires 0 c.as_slice-2.result.now

pub returns-clause-circuit : goal.returns-clause-circuit
returns-clause-circuit g c =
    let wired : IsWired (map g.E.Element.table c.args.elements.items) c.in_ok-targets.targets c.in_ok-sources.sources =
    unwired-IsWired g.E.Element.table c.args.elements.items
    c.as_slice-2.result.now c.as_slice-4.result.now c.in_ok-targets.targets c.in_ok-sources.sources c.requires
    (c.as_slice-2.ensures.value ∙ c.in_ok-outputs.ensures ∙ ap (map (λ x. (g.E.Element.table x).outputs))
    c.as_slice.ensures.value)
    (c.as_slice-4.ensures.value ∙ c.in_ok-inputs.ensures ∙ ap (map (λ x. (g.E.Element.table x).inputs))
    c.as_slice-3.ensures.value)
    c.in_ok-targets.ensures c.in_ok-sources.ensures in
    view-IsCircuit g.E.Element.table g.met.E.Element.reversible c.args.elements.items
    c.in_ok-targets.targets c.in_ok-sources.sources _ wired refl
