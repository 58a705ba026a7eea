use Rattle.std.proofs.Common.{◌≡◌, ◌∙◌, subst, IfOk}
use Rattle.bn_csv.specs.Lines.{lines_of}
use Rattle.bn_rsm.specs.Entry.{entries_by}
use Rattle.bn_reply_behaviours.proofs.text.table_text.Goals as goal

pub returns : goal.returns
returns c = subst (λ ms. IfOk c.write_moves.result (λ text. text.items ≡ lines_of (entries_by ms)))
    (c.as_slice.ensures.value ∙ c.in_ok-steps.ensures) c.write_moves.ensures
