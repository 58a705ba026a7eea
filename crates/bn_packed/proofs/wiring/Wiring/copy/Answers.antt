use Rattle.std.proofs.Common.{◌∙◌, sym, subst}
use Rattle.bn_packed.specs.Ends.{AreTargets, EndList, IsWiring, sources_by, targets_by}
use Rattle.bn_packed.proofs.BehindLemmas.{none_left, way_back-IsWiring}
use Rattle.bn_packed.proofs.wiring.Wiring.copy.Goals as goal

pub from_ahead-requires : goal.from_ahead-requires
from_ahead-requires g c = subst AreTargets (sym c.in_ok-ahead.ensures) c.self.invariant.0

pub invariant_of-result : goal.invariant_of-result
invariant_of-result g c = (
  subst AreTargets (sym c.in_ok-ahead.ensures) c.self.invariant.0,
  subst (λ (e : EndList). IsWiring (targets_by e) (sources_by c.in_ok-copy.field-0)) (sym c.in_ok-ahead.ensures)
      (subst (λ (s : EndList). IsWiring (targets_by c.self.inside.ahead) (sources_by s)) (sym c.in_ok-copy.ensures)
      (way_back-IsWiring c.self.inside.room _ _ (none_left c.self.inside.room
      (sym c.is_some.ensures ∙ c.if-is_some.false)) c.self.invariant.1)),
)
