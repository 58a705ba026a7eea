-- The numbers of the elements below this one that have turned were written.
use Rattle.std.proofs.Common.{◌≡◌, ◌++◌}
use Rattle.bn_reply_walks.specs.WalkView.{numbers_text, turned_below}
use Rattle.bn_reply_walks.proofs.view_text.push_turned.Given as goal

abbrev pub invariant-loop-element : goal.invariant-loop-element
invariant-loop-element l =
    l.text.items ≡ l.initial.text.items ++ numbers_text (turned_below l.before l.packed.config.states l.element)
