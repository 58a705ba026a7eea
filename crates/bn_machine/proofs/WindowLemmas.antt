-- A window shows a tape in one way.
use Rattle.std.specs.Prelude.{◌≡◌, ℕ, pos, ◌-ℤ◌, List, [], ◌∷◌, length, refl}
use Rattle.std.proofs.Common.{zero, suc, arith, sym, ap, ◌∙◌, get_or}
use Rattle.std.proofs.lemmas.Int.{ints}
use Rattle.bn_machine.specs.Tape.{Tape, cell}
use Rattle.bn_machine.proofs.RoomLemmas.{cell-window_of}
use Rattle.bn_machine.specs.Laws.{WindowsHaveOneList}

same_by_cells : (xs ys : List ℕ) → length xs ≡ length ys → ((k : ℕ) → get_or xs k 0 ≡ get_or ys k 0) → xs ≡ ys
same_by_cells [] [] n h = refl
same_by_cells [] (y ∷ ys) n h = absurd (omega arith)
same_by_cells (x ∷ xs) [] n h = absurd (omega arith)
same_by_cells (x ∷ xs) (y ∷ ys) n h =
    let first : x ≡ y = h zero in
    let rest = same_by_cells xs ys (omega (arith, n)) (λ k. h (suc k)) in
    λ i. first i ∷ rest i

pub windows-one : WindowsHaveOneList
windows-one left right xs ys a b n same = (
  same_by_cells xs ys n (λ k. sym (cell-window_of left right xs a k (pos k -ℤ pos left) refl)
      ∙ ap (λ t. cell t (pos k -ℤ pos left)) same ∙ cell-window_of left right ys b k (pos k -ℤ pos left) refl),
  (let heads : (pos a -ℤ pos left) ≡ (pos b -ℤ pos left) = ap (λ (t : Tape). t.head) same in omega
      (arith, ints, heads)),
)
