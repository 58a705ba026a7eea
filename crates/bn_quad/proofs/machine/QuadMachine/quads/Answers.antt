use Rattle.std.proofs.Common.{◌∙◌, sym, ap, subst, map}
use Rattle.bn_quad.specs.Quadruples.{Quadruples, IsQuadMachine}
use Rattle.bn_quad.specs.Kept.{quad_of}
use Rattle.bn_quad.proofs.KeptLemmas.{quads-rules_of, kept-machine}
use Rattle.bn_quad.proofs.machine.QuadMachine.quads.Goals as goal

pub returns-clause-value : goal.returns-clause-value
returns-clause-value c =
    c.as_slice.ensures.value ∙ sym (quads-rules_of _ _ _ c.self.invariant.sound)
    ∙ ap (λ (p : Quadruples). map quad_of p.rules) c.self.view_is

pub returns-clause-valid : goal.returns-clause-valid
returns-clause-valid c = subst IsQuadMachine c.self.view_is (kept-machine _ _ _ c.self.invariant)
