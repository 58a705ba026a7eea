-- The number of an element that has turned was written, and no other.
use Rattle.std.proofs.Common.{ℕ, Vec, Global, ap, sym, ◌∙◌}
use Rattle.bn_reply_walks.proofs.ViewLemmas.{turned_more, turned_same}
use Rattle.bn_reply_walks.proofs.view_text.push_turned.Goals as goal
use Rattle.bn_reply_walks.proofs.view_text.push_turned.Goals.{then-has_turned+in_ok-push_number, else-has_turned}

pub loop-element-preserved : goal.loop-element-preserved
loop-element-preserved c =
    let before = c.loop-element in
    let first = c.args.before.now in
    let now = c.args.packed.now.config.states in
    elim c.if-has_turned.branch [
      | then-has_turned+in_ok-push_number w ↦
          ap (λ (t : Vec ℕ Global). t.items) w.text-is
          ∙ turned_more first now before.element c.args.text.now.items before.text.items w.push_number.new.text.items
          before.invariant (sym w.if-has_turned.ensures) w.in_ok-push_number.ensures
      | else-has_turned w ↦
          ap (λ (t : Vec ℕ Global). t.items) w.text-is
          ∙ turned_same first now before.element c.args.text.now.items before.text.items before.invariant
          (sym w.if-has_turned.ensures)
    ]
