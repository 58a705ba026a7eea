use Rattle.std.proofs.Common.{◌≡◌, suc, ◌-◌, length, arith, ◌∙◌, ap}
use Rattle.bn_quad.specs.Quadruples.{Quadruples, final_state_of}
use Rattle.bn_quad.proofs.KeptLemmas.{final_of-last}
use Rattle.bn_quad.specs.declared.quad.Quad.{Quad}
use Rattle.bn_quad.proofs.machine.QuadMachine.final_state.Goals as goal

pub returns : goal.returns
returns c =
    let last : suc (c.len.result - 1) ≡ length c.self.inside.quads.items = omega (arith, c.self.invariant.some) in
    ap (λ (q : Quad). q.next) c.index.ensures
    ∙ final_of-last c.self.inside.quads.items (c.len.result - 1) c.index.result.now last
    ∙ ap (λ (p : Quadruples). final_state_of p.rules) c.self.view_is
