-- The new breakpoint goes last, and where it can't be kept nothing has changed.
use Rattle.std.proofs.Common.{◌≡◌, length, ◌∙◌, ap, arith}
use Rattle.std.specs.Vec.{with_items}
use Rattle.std.proofs.lemmas.List.{with_items_is}
use Rattle.slab.specs.Slab.{get}
use Rattle.bn_session.specs.Kept.{with_mark}
use Rattle.bn_session.proofs.BreakLemmas.{kept_same, taken_again, added}
use Rattle.bn_session.proofs.breaks.Breaks.add.Goals as goal
use Rattle.bn_session.proofs.breaks.Breaks.add.Goals.{in-Ok-insert-2, in-Err}

pub invariant_of-self : goal.invariant_of-self
invariant_of-self c =
    kept_same c.self.inside.conditions c.insert.new.self c.self.inside.keys.entries c.self.inside.marks.items
    (λ key. ap (λ s. get s key) c.in_default-insert.ensures.err) c.self.invariant

pub invariant_of-self-in-Ok-insert-2 : goal.invariant_of-self-in-Ok-insert-2
invariant_of-self-in-Ok-insert-2 c =
    let long : length c.mark.new.marks ≡ c.self.inside.marks.len = let a = c.mark.auto.marks in let b =
    c.deref_mut.ensures.len in omega arith in
    let marks : (with_items c.self.inside.marks c.mark.new.marks).items
    ≡ with_mark c.self.inside.marks.items c.args.condition =
    with_items_is c.self.inside.marks c.mark.new.marks long ∙ c.mark.ensures
    ∙ ap (λ ms. with_mark ms c.args.condition) c.deref_mut.ensures.value
    in
    (added c.self.inside.conditions c.insert.new.self c.self.inside.keys.entries c.insert-2.new.self.entries
    c.self.inside.marks.items (with_items c.self.inside.marks c.mark.new.marks).items c.args.label.now c.in-Ok.owned
    c.in-Ok-insert.key c.args.condition
    c.self.invariant c.in-Ok-insert.ensures.was_vacant c.in-Ok-insert.ensures.updates c.in-Ok.ensures.items
    (rw c.self.view_is c.requires) c.in-Ok-insert-2.ensures.entries marks).0

pub invariant_of-self-in-Err : goal.invariant_of-self-in-Err
invariant_of-self-in-Err c =
    rw c.in-Err.ensures.err (kept_same c.self.inside.conditions c.try_remove.new.self c.self.inside.keys.entries
    c.self.inside.marks.items
    (taken_again c.self.inside.conditions c.insert.new.self c.try_remove.new.self c.in-Ok-insert.key c.args.condition
    c.in-Ok-insert.ensures.was_vacant c.in-Ok-insert.ensures.updates c.try_remove.ensures.updates) c.self.invariant)

pub returns : goal.returns
returns c = elim c.match-insert-2.branch [
  | in-Ok-insert-2 w ↦
      let all = (added c.self.inside.conditions c.insert.new.self c.self.inside.keys.entries c.insert-2.new.self.entries
      c.self.inside.marks.items w.mark.new.marks c.args.label.now c.in-Ok.owned c.in-Ok-insert.key c.args.condition
      c.self.invariant c.in-Ok-insert.ensures.was_vacant c.in-Ok-insert.ensures.updates c.in-Ok.ensures.items
      (rw c.self.view_is c.requires) w.in-Ok-insert-2.ensures.entries
      (w.mark.ensures ∙ ap (λ ms. with_mark ms c.args.condition) w.deref_mut.ensures.value)).1 in
      rw (w.result-is, w.self-is, ← c.self.view_is) all
  | in-Err w ↦ rw w.result-is tt
]
