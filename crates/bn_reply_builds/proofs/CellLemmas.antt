-- The text of cells, one after another.
use Rattle.std.specs.Prelude.{◌≡◌, ℕ, ◌+◌, ◌<◌, ◌≤◌, List, [], ◌∷◌, ◌++◌, length, drop, Option, Some, None, refl}
use Rattle.std.proofs.Common.{get_or, sym, ap, ◌∙◌, append-nil}
use Rattle.std.proofs.lemmas.List.{drop_all}
use Rattle.bn_reply_builds.specs.DriveText.{drive_cells_text, name_in}
use Rattle.bn_reply_boards.proofs.CellTextLemmas.{drop_one}

module _ (names : List (List ℕ)) where
  cell_first : (o : Option ℕ) (cells : List (Option ℕ)) → drive_cells_text names (o ∷ cells) ≡ drive_cells_text names
      (o ∷ []) ++ drive_cells_text names cells
  cell_first None cells = refl
  cell_first (Some s) cells = ap (λ text. 32 ∷ (text ++ drive_cells_text names cells))
      (sym (append-nil (name_in names s)))

  -- the cells from k on are that at k and those behind it
  pub cells_on : (cells : List (Option ℕ)) (k : ℕ) (d o : Option ℕ) → k < length cells → get_or cells k d ≡ o
      → drive_cells_text names (drop k cells)
      ≡ drive_cells_text names (o ∷ []) ++ drive_cells_text names (drop (k + 1) cells)
  cells_on cells k d o low is = ap (drive_cells_text names) (drop_one cells k d o low is)
      ∙ cell_first o (drop (k + 1) cells)

  pub none_left : (cells : List (Option ℕ)) (k : ℕ) → length cells ≤ k → drive_cells_text names (drop k cells) ≡ []
  none_left cells k past = ap (drive_cells_text names) (drop_all k cells past)
