use Rattle.std.proofs.Common.{◌≡◌, ◌++◌, ◌∷◌, [], List, ℕ, ap, ◌∙◌}
use Rattle.std.specs.Prelude.{codes, decimal}
use Rattle.bn_reply.specs.Lines.{line, position_text}
use Rattle.bn_reply.proofs.FrontLemmas.{behind_first, if_refused, in_first, of_equal}
use Rattle.bn_quad.specs.Names.{symbols_on}
use Rattle.bn_reply_builds.specs.DriveText.{drive_cells_text}
use Rattle.bn_reply_relations.specs.RunText.{head_text}
use Rattle.bn_reply_boards.specs.Shown.{bounds_text}
use Rattle.bn_reply_boards.proofs.CellTextLemmas.{bounds_apart}
use Rattle.bn_reply_builds.proofs.outcome_text.push_tape.Goals as goal

pub returns-in_err-push_bounds-clause-refused : goal.returns-in_err-push_bounds-clause-refused
returns-in_err-push_bounds-clause-refused c =
    let s = c.args.shown.now in
    let cells = line (drive_cells_text (symbols_on c.args.names.now.names.now c.args.tape) s.cells ∷ []) in
    let rest : List ℕ = codes " from " ++ (position_text s.first ++ (codes " head " ++ (head_text s.head
    ++ (codes ":" ++ cells)))) in
    let number : c.push_u64.new.out.items ≡ c.push.new.text.items ++ decimal c.args.tape =
    c.in_ok-push_u64.ensures.ok ∙ ap (λ n. c.push.new.text.items ++ decimal n) c.from.ensures in
    if_refused c.from_residual-in_err-push_bounds.result
    (behind_first _ _ _ (codes "tape ") (decimal c.args.tape ++ rest) c.in_ok-push.ensures.added
    (behind_first _ _ _ (decimal c.args.tape) rest number (of_equal _ _ (bounds_text s ++ cells) rest
    (bounds_apart s cells) (in_first _ _ (bounds_text s) cells c.in_err-push_bounds.ensures.refused))))

pub returns-in_err-push_cells-clause-refused : goal.returns-in_err-push_cells-clause-refused
returns-in_err-push_cells-clause-refused c =
    let s = c.args.shown.now in
    let shown = drive_cells_text (symbols_on c.args.names.now.names.now c.args.tape) s.cells in
    let cells = line (shown ∷ []) in
    let rest : List ℕ = codes " from " ++ (position_text s.first ++ (codes " head " ++ (head_text s.head
    ++ (codes ":" ++ cells)))) in
    let number : c.push_u64.new.out.items ≡ c.push.new.text.items ++ decimal c.args.tape =
    c.in_ok-push_u64.ensures.ok ∙ ap (λ n. c.push.new.text.items ++ decimal n) c.from.ensures in
    if_refused c.from_residual-in_err-push_cells.result
    (behind_first _ _ _ (codes "tape ") (decimal c.args.tape ++ rest) c.in_ok-push.ensures.added
    (behind_first _ _ _ (decimal c.args.tape) rest number (of_equal _ _ (bounds_text s ++ cells) rest
    (bounds_apart s cells) (behind_first _ _ _ (bounds_text s) cells c.in_ok-push_bounds.ensures.added
    (in_first _ _ shown (10 ∷ []) (of_equal _ _ _ shown (ap
    (drive_cells_text (symbols_on c.args.names.now.names.now c.args.tape))
    c.as_slice.ensures) c.in_err-push_cells.ensures.refused))))))
