use Rattle.std.proofs.Common.{◌≡◌, ◌∙◌, ap, map, reverse}
use Rattle.bn_quad.specs.Quadruples.{Quadruples, inverse_of, turned_list}
use Rattle.bn_quad.specs.Kept.{turned_quad, rules_of}
use Rattle.bn_quad.proofs.KeptLemmas.{kept-machine}
use Rattle.bn_quad.proofs.BackwardLemmas.{kept_turned, inverse_kept, inverse_steps_back, rules_of-turned_quads}
use Rattle.bn_quad.proofs.machine.QuadMachine.inverse.Goals as goal

pub invariant_of-result : goal.invariant_of-result
invariant_of-result c =
    let items : c.in-Ok.quads.items ≡ map turned_quad (reverse c.self.inside.quads.items) =
    c.in-Ok.ensures ∙ ap (λ qs. map turned_quad (reverse qs)) c.as_slice.ensures.value in
    kept_turned _ _ _ _ items c.self.invariant

pub returns-clause-turned : goal.returns-clause-turned
returns-clause-turned c =
    let items : c.in-Ok.quads.items ≡ map turned_quad (reverse c.self.inside.quads.items) =
    c.in-Ok.ensures ∙ ap (λ qs. map turned_quad (reverse qs)) c.as_slice.ensures.value in
    inverse_kept c.self.inside.quads.items c.in-Ok.quads.items c.self.inside.states c.self.inside.symbols items
    ∙ ap inverse_of c.self.view_is

pub returns-clause-valid : goal.returns-clause-valid
returns-clause-valid c =
    let items : c.in-Ok.quads.items ≡ map turned_quad (reverse c.self.inside.quads.items) =
    c.in-Ok.ensures ∙ ap (λ qs. map turned_quad (reverse qs)) c.as_slice.ensures.value in
    kept-machine _ _ _ (kept_turned _ _ _ _ items c.self.invariant)

pub returns-clause-steps_back : goal.returns-clause-steps_back
returns-clause-steps_back c =
    let items : c.in-Ok.quads.items ≡ map turned_quad (reverse c.self.inside.quads.items) =
    c.in-Ok.ensures ∙ ap (λ qs. map turned_quad (reverse qs)) c.as_slice.ensures.value in
    inverse_steps_back c.args.self.now.rules (rules_of c.in-Ok.quads.items)
    (ap rules_of items ∙ rules_of-turned_quads c.self.inside.quads.items
    ∙ ap (λ (p : Quadruples). turned_list p.rules) c.self.view_is)
