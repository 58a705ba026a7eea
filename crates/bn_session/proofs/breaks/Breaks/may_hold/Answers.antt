use Rattle.std.proofs.Common.{sym, ◌∙◌, ap}
use Rattle.bn_session.specs.Kept.{mark_at}
use Rattle.bn_session.proofs.BreakLemmas.{no_moment}
use Rattle.bn_session.proofs.breaks.Breaks.may_hold.Goals as goal

pub returns-else-is_some : goal.returns-else-is_some
returns-else-is_some c = λ unmarked.
    rw (← c.self.view_is) (no_moment c.self.inside.conditions c.self.inside.keys.entries c.self.inside.marks.items
    c.args.place c.args.moment c.self.invariant
    (ap (λ ms. mark_at ms c.args.place) (sym c.deref.ensures.value) ∙ sym c.is_marked.ensures ∙ unmarked)
    (sym c.if-is_some.ensures))
