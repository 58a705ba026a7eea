use Rattle.std.proofs.Common.{◌∙◌, ap, subst}
use Rattle.bn_quad.specs.Kept.{rules_of}
use Rattle.bn_quad.specs.Index.{IsIndexOf}
use Rattle.bn_quad.proofs.KeptLemmas.{rules_of-quads}
use Rattle.bn_quad.proofs.IndexLemmas.{states_in_range}
use Rattle.bn_quad.proofs.indexed.IndexedMachine.try_new.Goals as goal

pub try_new-requires-clause-states : goal.try_new-requires-clause-states
try_new-requires-clause-states c =
    rw (c.quads.ensures.value, c.states.ensures) (states_in_range c.args.machine.now c.quads.ensures.valid)

pub invariant_of-result : goal.invariant_of-result
invariant_of-result c =
    subst (λ rs. IsIndexOf rs c.in_ok-index.index) (ap rules_of c.quads.ensures.value
    ∙ rules_of-quads c.args.machine.now.rules) c.in_ok-index.ensures
