-- The table of the element is the text of its moves.
use Rattle.std.specs.Prelude.{List}
use Rattle.std.proofs.Common.{refl, ap, ◌∙◌}
use Rattle.bn_csv.specs.Lines.{lines_of}
use Rattle.bn_rsm.specs.Entry.{entries_by}
use Rattle.bn_rsm.specs.declared.rsm_move.RsmMove.{RsmMove}
use Rattle.bn_reply_circuits.specs.ElementReply.{numbered}
use Rattle.bn_reply_circuits.proofs.element.reply_element.Goals as goal

pub returns : goal.returns
returns c =
    numbered c.in_ok-moves.moves.items c.in_ok-moves.ensures refl
    (c.in_ok-write_moves.ensures ∙ ap (λ (moves : List RsmMove). lines_of (entries_by moves)) c.as_slice.ensures.value)
    refl
