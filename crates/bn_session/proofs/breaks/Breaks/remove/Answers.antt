use Rattle.std.proofs.Common.{sym}
use Rattle.bn_session.proofs.BreakLemmas.{removed, not_removed}
use Rattle.bn_session.proofs.breaks.Breaks.remove.Goals as goal

pub invariant_of-self : goal.invariant_of-self
invariant_of-self c = rw c.in-Some.ensures.entries (removed c.args.label.now c.self.inside.conditions
    c.try_remove.new.self c.in-Some.key c.self.inside.keys.entries c.self.inside.marks.items
    (sym c.in-Some.ensures.value) c.try_remove.ensures.updates c.self.invariant).0

pub returns-in-Some : goal.returns-in-Some
returns-in-Some c = rw (c.in-Some.ensures.entries, ← c.self.view_is)
    (removed c.args.label.now c.self.inside.conditions c.try_remove.new.self c.in-Some.key c.self.inside.keys.entries
    c.self.inside.marks.items (sym c.in-Some.ensures.value) c.try_remove.ensures.updates c.self.invariant).1

pub returns-in_default : goal.returns-in_default
returns-in_default c = rw (c.in_default.ensures.unchanged, ← c.self.view_is)
    (sym (not_removed c.args.label.now c.self.inside.conditions c.self.inside.keys.entries
    (sym c.in_default.ensures.value)))
