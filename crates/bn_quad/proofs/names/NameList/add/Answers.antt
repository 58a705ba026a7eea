use Rattle.std.proofs.Common.{sym, ap, subst, map}
use Rattle.bn_quad.specs.Names.{AreNames}
use Rattle.bn_quad.proofs.NamesLemmas.{names_pushed}
use Rattle.bn_quad.proofs.names.NameList.add.Goals as goal

pub invariant_of-self : goal.invariant_of-self
invariant_of-self c = subst AreNames (sym (ap (map (λ v. v.items)) c.in_err-push.ensures.items)) c.self.invariant

pub invariant_of-self-2 : goal.invariant_of-self-2
invariant_of-self-2 c = names_pushed (λ v. v.items) _ _ c.in_ok-owned.owned _ _ c.self.view_is
    c.in_ok-owned.ensures.items c.in_ok-push.ensures.items c.self.invariant c.requires.room c.requires.new
