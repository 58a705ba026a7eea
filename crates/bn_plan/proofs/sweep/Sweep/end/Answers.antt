use Rattle.std.proofs.Common.{◌<◌, ◌∙◌, sym, subst, length, None}
use Rattle.std.proofs.lemmas.Result.{on_ok_weaker}
use Rattle.bn_plan.specs.Sweeping.{Swept, IsSwept}
use Rattle.bn_plan.proofs.SweepLemmas.{swept_none, swept_end, read_is}
use Rattle.bn_plan.proofs.sweep.Sweep.end.Goals as goal

pub returns-in-None-clause-swept : goal.returns-in-None-clause-swept
returns-in-None-clause-swept c =
    let inside = subst (λ (s : Swept). c.args.position < length s.ending) (sym c.self.view_is) c.requires in
    λ ws r none is. swept_none ws r c.args.position c.args.self.now is none
    (rw (← c.self.view_is) (read_is c.self.inside.ending.items c.args.position c.index.result.now None inside
    c.index.ensures ∙ c.in-None.is))

pub returns-in-Some-clause-swept : goal.returns-in-Some-clause-swept
returns-in-Some-clause-swept c =
    let inside = subst (λ (s : Swept). c.args.position < length s.ending) (sym c.self.view_is) c.requires in
    on_ok_weaker c.add.result (λ moved ws r none is. swept_end ws r c.args.position _
    (subst (IsSwept ws c.args.position) (sym c.self.view_is) is) c.add.new.self c.in-Some.track none inside
    (read_is c.self.inside.ending.items c.args.position c.index.result.now None inside c.index.ensures ∙ c.in-Some.is)
    moved) c.add.ensures
