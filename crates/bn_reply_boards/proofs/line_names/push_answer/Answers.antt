use Rattle.std.proofs.Common.{◌++◌, ap, ◌∙◌}
use Rattle.std.specs.Prelude.{codes, decimal}
use Rattle.std.proofs.lemmas.Result.{on_err_weaker}
use Rattle.bn_reply.proofs.FrontLemmas.{as_it_was, behind_first, if_refused, in_first, of_equal}
use Rattle.bn_reply_boards.specs.LineNames.{answer_line, cell_line_text}
use Rattle.bn_reply_boards.proofs.line_names.push_answer.Goals as goal

pub returns-in_err-push_cell_line-clause-refused : goal.returns-in_err-push_cell_line-clause-refused
returns-in_err-push_cell_line-clause-refused c =
    let name = cell_line_text (answer_line c.args.symbols c.args.place) in
    if_refused c.from_residual.result (in_first _ _ name (codes " " ++ decimal c.args.tape)
    (of_equal _ _ _ name (ap cell_line_text c.answer_line.ensures) c.in_err-push_cell_line.ensures.refused))

pub returns-clause-refused : goal.returns-clause-refused
returns-clause-refused c =
    let name = cell_line_text (answer_line c.args.symbols c.args.place) in
    on_err_weaker c.push_u64.result (λ same.
    behind_first _ _ _ name (codes " " ++ decimal c.args.tape) (c.in_ok-push_cell_line.ensures.added
    ∙ ap (λ answer. c.args.text.now.items ++ cell_line_text answer) c.answer_line.ensures)
    (behind_first _ _ _ (codes " ") (decimal c.args.tape) c.in_ok-push.ensures.added (as_it_was _ _ _ same)))
    c.push_u64.ensures.err
