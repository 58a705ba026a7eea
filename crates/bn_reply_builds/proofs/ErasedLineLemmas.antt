-- The lines of tapes, by the names of the table that is read and by those of the one that was written.
use Rattle.std.specs.Prelude.{◌≡◌, ℕ, ◌<◌, ℤ, pos, ◌-ℤ◌, List, [], ◌∷◌, ◌++◌, codes, decimal, length, map, Some}
use Rattle.std.specs.Prelude.{position, refl}
use Rattle.std.specs.List.{range_with_len}
use Rattle.std.specs.Option.{option_map}
use Rattle.std.specs.Ordering.{int_eq}
use Rattle.std.proofs.Common.{sym, ap, ◌∙◌, get_or}
use Rattle.std.proofs.lemmas.Option.{get_or_from_slice_get, slice_get-get_or}
use Rattle.bn_machine.specs.Tape.{Tape, cell}
use Rattle.bn_renumbering.specs.Renumbering.{IsRenumberedTape, KeepNames}
use Rattle.bn_boards.specs.Layouts.{tape_in}
use Rattle.bn_reply.specs.Lines.{line, position_text}
use Rattle.bn_reply_relations.specs.RunText.{head_text}
use Rattle.bn_reply_builds.specs.DriveText.{drive_cells_text, drive_tape_line, name_in}

kept_name : (renumber : ℕ → ℕ) (before after : List (List ℕ)) → KeepNames renumber before after → (c : ℕ)
    → c < length before → name_in before c ≡ name_in after (renumber c)
kept_name renumber before after keeps c low =
    sym (get_or_from_slice_get after (renumber c) (get_or before c []) [] (keeps c (get_or before c [])
    (slice_get-get_or before c [] low)))

-- the line of a tape and that of the tape with the new numbers
module _ (renumber : ℕ → ℕ) (before after : List (List ℕ)) (keeps : KeepNames renumber before after) (x y : Tape)
    (alike : IsRenumberedTape renumber x y) (known : (p : ℤ) → cell x p < length before) where
  cells_as : (at : ℕ → ℤ) (js : List ℕ) → drive_cells_text before (map (λ j. Some (cell x (at j))) js)
      ≡ drive_cells_text after (map (λ j. Some (cell y (at j))) js)
  cells_as at [] = refl
  cells_as at (j ∷ js) =
      let here : name_in before (cell x (at j)) ≡ name_in after (cell y (at j)) =
      kept_name renumber before after keeps (cell x (at j)) (known (at j))
      ∙ ap (name_in after) (sym (alike.cells (at j))) in
      let rest = cells_as at js in
      λ i. codes " " ++ (here i ++ rest i)

  pub tape_line_as : (tape below n : ℕ)
      → drive_tape_line before tape (tape_in below n x) ≡ drive_tape_line after tape (tape_in below n y)
  tape_line_as tape below n =
      let cells = cells_as (λ j. pos j -ℤ pos below) (range_with_len 0 n) in
      λ i. line (codes "tape " ∷ decimal tape ∷ codes " from " ∷ position_text (pos 0 -ℤ pos below) ∷ codes " head "
      ∷ head_text (option_map (λ j. pos j -ℤ pos below)
      (position (λ j. int_eq (pos j -ℤ pos below) (sym alike.head i)) (range_with_len 0 n)))
      ∷ codes ":" ∷ cells i ∷ [])
