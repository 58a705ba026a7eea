use Rattle.std.proofs.Common.{rules, ◌≡◌, ◌++◌, ◌∷◌, [], sym, ap, ◌∙◌}
use Rattle.std.specs.Prelude.{codes}
use Rattle.std.proofs.lemmas.Result.{on_err_weaker, on_ok_weaker}
use Rattle.bn_view.specs.declared.layers.ModuleAt.{ModuleAt}
use Rattle.bn_reply.specs.Fronts.{GrewInPart}
use Rattle.bn_reply.specs.Lines.{line}
use Rattle.bn_reply.proofs.FrontLemmas.{as_it_was, behind_first, if_refused, in_first, of_equal}
use Rattle.bn_reply_boards.specs.LineNames.{cell_line_text, control_line_text, counts_in}
use Rattle.bn_reply_views.specs.ViewText.{cell_text, module_line}
use Rattle.bn_reply_boards.proofs.PieceLemmas.{four_pieces}
use Rattle.bn_reply_views.proofs.view_text.push_module.Goals as goal

pub returns-in_ok-push_cell_line-in-CellLine-clause-added : goal.returns-in_ok-push_cell_line-in-CellLine-clause-added
returns-in_ok-push_cell_line-in-CellLine-clause-added c =
    let at = c.in-CellLine in
    let first : c.push_cell.new.text.items ≡ c.args.text.now.items ++ cell_text at.tape at.position = search rules in
    on_ok_weaker c.push-in-CellLine-2.result (λ last.
    four_pieces c.args.text.now.items (cell_text at.tape at.position) (codes " line ") (cell_line_text at.line)
    (10 ∷ []) c.push_cell.new.text.items c.push-in-CellLine.new.text.items
    c.push_cell_line.new.text.items c.push-in-CellLine-2.new.text.items first c.in_ok-push-in-CellLine.ensures.added
    c.in_ok-push_cell_line-in-CellLine.ensures.added last
    ∙ ap (λ (m : ModuleAt). c.args.text.now.items ++ module_line (counts_in c.args.counts) [] m) (sym at.is))
    c.push-in-CellLine-2.ensures.added

pub returns-in_err-push-in-ControlLine-clause-refused : goal.returns-in_err-push-in-ControlLine-clause-refused
returns-in_err-push-in-ControlLine-clause-refused c =
    if_refused c.from_residual.result (as_it_was _ _ _ c.in_err-push-in-ControlLine.ensures.refused)

pub returns-in_err-push_control_line-in-ControlLine-clause-refused :
    goal.returns-in_err-push_control_line-in-ControlLine-clause-refused
returns-in_err-push_control_line-in-ControlLine-clause-refused c =
    let at = c.in-ControlLine in
    let name = control_line_text (counts_in c.args.counts) at.line in
    if_refused c.from_residual-in_err-push_control_line-in-ControlLine.result
    (of_equal _ _ (line (codes "module control line " ∷ name ∷ [])) _
    (ap (λ (m : ModuleAt). module_line (counts_in c.args.counts) [] m) (sym at.is))
    (behind_first _ _ _ (codes "module control line ") (line (name ∷ [])) c.in_ok-push-in-ControlLine.ensures.added
    (in_first _ _ name (10 ∷ []) c.in_err-push_control_line-in-ControlLine.ensures.refused)))

pub returns-in_ok-push_control_line-in-ControlLine-clause-refused :
    goal.returns-in_ok-push_control_line-in-ControlLine-clause-refused
returns-in_ok-push_control_line-in-ControlLine-clause-refused c =
    let at = c.in-ControlLine in
    let name = control_line_text (counts_in c.args.counts) at.line in
    on_err_weaker c.push-in-ControlLine.result (λ same.
    (of_equal _ _ (line (codes "module control line " ∷ name ∷ [])) _
    (ap (λ (m : ModuleAt). module_line (counts_in c.args.counts) [] m) (sym at.is))
    (behind_first _ _ _ (codes "module control line ") (line (name ∷ [])) c.in_ok-push-in-ControlLine.ensures.added
    (behind_first _ _ _ name (10 ∷ []) c.in_ok-push_control_line-in-ControlLine.ensures.added
    (as_it_was _ _ _ same))))) c.push-in-ControlLine.ensures.refused

pub returns-in_err-push_cell-in-CellLine-clause-refused : goal.returns-in_err-push_cell-in-CellLine-clause-refused
returns-in_err-push_cell-in-CellLine-clause-refused c =
    let at = c.in-CellLine in
    let cell = cell_text at.tape at.position in
    let name = cell_line_text at.line in
    let part : GrewInPart c.args.text.now.items c.push_cell.new.text.items cell = search rules in
    if_refused c.from_residual-in_err-push_cell-in-CellLine.result
    (of_equal _ _ (line (cell ∷ codes " line " ∷ name ∷ [])) _
    (ap (λ (m : ModuleAt). module_line (counts_in c.args.counts) [] m) (sym at.is))
    (in_first _ _ cell (line (codes " line " ∷ name ∷ [])) part))

pub returns-in_err-push-in-CellLine-clause-refused : goal.returns-in_err-push-in-CellLine-clause-refused
returns-in_err-push-in-CellLine-clause-refused c =
    let at = c.in-CellLine in
    let cell = cell_text at.tape at.position in
    let name = cell_line_text at.line in
    let first : c.push_cell.new.text.items ≡ c.args.text.now.items ++ cell = search rules in
    if_refused c.from_residual-in_err-push-in-CellLine.result
    (of_equal _ _ (line (cell ∷ codes " line " ∷ name ∷ [])) _
    (ap (λ (m : ModuleAt). module_line (counts_in c.args.counts) [] m) (sym at.is))
    (behind_first _ _ _ cell (line (codes " line " ∷ name ∷ [])) first
    (as_it_was _ _ _ c.in_err-push-in-CellLine.ensures.refused)))

pub returns-in_err-push_cell_line-in-CellLine-clause-refused :
    goal.returns-in_err-push_cell_line-in-CellLine-clause-refused
returns-in_err-push_cell_line-in-CellLine-clause-refused c =
    let at = c.in-CellLine in
    let cell = cell_text at.tape at.position in
    let name = cell_line_text at.line in
    let first : c.push_cell.new.text.items ≡ c.args.text.now.items ++ cell = search rules in
    if_refused c.from_residual-in_err-push_cell_line-in-CellLine.result
    (of_equal _ _ (line (cell ∷ codes " line " ∷ name ∷ [])) _
    (ap (λ (m : ModuleAt). module_line (counts_in c.args.counts) [] m) (sym at.is))
    (behind_first _ _ _ cell (line (codes " line " ∷ name ∷ [])) first
    (behind_first _ _ _ (codes " line ") (line (name ∷ [])) c.in_ok-push-in-CellLine.ensures.added
    (in_first _ _ name (10 ∷ []) c.in_err-push_cell_line-in-CellLine.ensures.refused))))

pub returns-in_ok-push_cell_line-in-CellLine-clause-refused :
    goal.returns-in_ok-push_cell_line-in-CellLine-clause-refused
returns-in_ok-push_cell_line-in-CellLine-clause-refused c =
    let at = c.in-CellLine in
    let cell = cell_text at.tape at.position in
    let name = cell_line_text at.line in
    let first : c.push_cell.new.text.items ≡ c.args.text.now.items ++ cell = search rules in
    on_err_weaker c.push-in-CellLine-2.result (λ same.
    (of_equal _ _ (line (cell ∷ codes " line " ∷ name ∷ [])) _
    (ap (λ (m : ModuleAt). module_line (counts_in c.args.counts) [] m) (sym at.is))
    (behind_first _ _ _ cell (line (codes " line " ∷ name ∷ [])) first
    (behind_first _ _ _ (codes " line ") (line (name ∷ [])) c.in_ok-push-in-CellLine.ensures.added
    (behind_first _ _ _ name (10 ∷ []) c.in_ok-push_cell_line-in-CellLine.ensures.added
    (as_it_was _ _ _ same)))))) c.push-in-CellLine-2.ensures.refused

pub returns-in_err-push_cell-in-CellInside-clause-refused : goal.returns-in_err-push_cell-in-CellInside-clause-refused
returns-in_err-push_cell-in-CellInside-clause-refused c =
    let at = c.in-CellInside in
    let cell = cell_text at.tape at.position in
    let part : GrewInPart c.args.text.now.items c.push_cell-in-CellInside.new.text.items cell = search rules in
    if_refused c.from_residual-in_err-push_cell-in-CellInside.result
    (of_equal _ _ (line (cell ∷ codes " inside" ∷ [])) _
    (ap (λ (m : ModuleAt). module_line (counts_in c.args.counts) [] m) (sym at.is))
    (in_first _ _ cell (line (codes " inside" ∷ [])) part))

pub returns-in_ok-push_cell-in-CellInside-clause-refused : goal.returns-in_ok-push_cell-in-CellInside-clause-refused
returns-in_ok-push_cell-in-CellInside-clause-refused c =
    let at = c.in-CellInside in
    let cell = cell_text at.tape at.position in
    let first : c.push_cell-in-CellInside.new.text.items ≡ c.args.text.now.items ++ cell = search rules in
    on_err_weaker c.push-in-CellInside.result (λ same.
    (of_equal _ _ (line (cell ∷ codes " inside" ∷ [])) _
    (ap (λ (m : ModuleAt). module_line (counts_in c.args.counts) [] m) (sym at.is))
    (behind_first _ _ _ cell (line (codes " inside" ∷ [])) first (as_it_was _ _ _ same))))
    c.push-in-CellInside.ensures.refused
