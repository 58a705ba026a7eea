use Rattle.std.proofs.Common.{◌≡◌, ◌<◌, ℕ, List, drop, sym, ap, subst, ◌∙◌}
use Rattle.std.specs.Prelude.{All}
use Rattle.bn_reply_relations.specs.RunText.{output_from}
use Rattle.bn_reply_boards.proofs.CellTextLemmas.{letters_behind, taken_behind}
use Rattle.bn_reply_boards.proofs.tape_text.push_output.Goals as goal

pub push_letters-requires : goal.push_letters-requires
push_letters-requires c =
    let is : c.as_slice.result.now ≡ output_from (drop 1 c.args.cells.now) =
    c.as_slice.ensures.value ∙ c.in_ok-output.ensures ∙ ap output_from (taken_behind c.args.cells.now c.requires.some)
    in
    subst (λ (ys : List ℕ). All (λ s. s < c.args.table.now.machine.symbols) ys) (sym is)
    (letters_behind c.args.table.now c.args.cells.now c.requires.letters)
