use Rattle.std.proofs.Common.{◌≡◌, ◌∙◌, List, ℕ, sym, ap, subst, MatchOption}
use Rattle.bn_quad.specs.Quadruples.{Rule, HasNoRule, IsFirstRule}
use Rattle.bn_quad.specs.Calls.{configuration}
use Rattle.bn_quad.specs.Kept.{rule_of, rules_of}
use Rattle.bn_quad.specs.Index.{IsIndexOf}
use Rattle.bn_quad.proofs.KeptLemmas.{rules_of-quads}
use Rattle.bn_quad.proofs.IndexLemmas.{rules_unmixed}
use Rattle.bn_quad.proofs.indexed.IndexedMachine.step.Goals as goal

pub first_rule-found-requires-clause-index : goal.first_rule-found-requires-clause-index
first_rule-found-requires-clause-index c =
    let same : rules_of c.quads.result.now ≡ c.self.inside.machine.now.rules =
    ap rules_of c.quads.ensures.value ∙ rules_of-quads c.self.inside.machine.now.rules in
    subst (λ rs. IsIndexOf rs c.self.inside.index) (sym same) c.self.invariant

pub first_rule-found-requires-clause-unmixed : goal.first_rule-found-requires-clause-unmixed
first_rule-found-requires-clause-unmixed c = rw c.quads.ensures.value (rules_unmixed c.self.inside.machine.now.rules)

pub step_by-requires-clause-first : goal.step_by-requires-clause-first
step_by-requires-clause-first c =
    let same : rules_of c.quads.result.now ≡ c.self.inside.machine.now.rules =
    ap rules_of c.quads.ensures.value ∙ rules_of-quads c.self.inside.machine.now.rules in
    subst (λ (rs : List (Rule ℕ)). MatchOption c.first_rule-found.result
    (HasNoRule rs (configuration c.args.state.now c.args.tapes.now))
    (λ f. IsFirstRule rs (configuration c.args.state.now c.args.tapes.now) f.0 (rule_of f.1))) same
    c.first_rule-found.ensures.first
