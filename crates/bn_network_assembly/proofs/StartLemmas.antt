-- The states in which the cells of a tape start.
use Rattle.std.specs.Prelude.{◌≡◌, ◌≢◌, ℕ, ◌+◌, ◌-◌, ◌<◌, ◌≤◌, ℤ, pos, negsuc, ◌-ℤ◌, List, [], ◌∷◌, ◌++◌, length, map}
use Rattle.std.specs.Prelude.{slice_index}
use Rattle.std.specs.List.{range_with_len}
use Rattle.std.specs.Ordering.{int_eq}
use Rattle.std.proofs.Common.{suc, arith, sym, ap, ◌∙◌, append_assoc, inl, inr}
use Rattle.std.proofs.lemmas.Int.{ints}
use Rattle.std.proofs.lemmas.Bool.{cases_Bool, cases_lt}
use Rattle.std.proofs.lemmas.List.{get_or_past}
use Rattle.std.proofs.lemmas.Bool.Decides.{Decides-int_eq}
use Rattle.std.proofs.lemmas.List.FromFn.{map-range_with_len_more}
use Rattle.bn_machine.specs.Tape.{word_tape, cell, letter_at}
use Rattle.bn_machine.proofs.TapeLemmas.{cell-word}
use Rattle.bn_network.specs.Cells.{state_number}
use Rattle.bn_network.specs.Networks.{cell_of}
use Rattle.bn_network_assembly.specs.Starting.{start_state}

at_head : (z : ℕ) (word : List ℕ) (p : ℤ) → p ≡ pos 0 → state_number z (cell_of (word_tape word) p) ≡ z
at_head z word p e =
    let blank : cell (word_tape word) (pos 0) ≡ 0 = cell-word word (pos 0) in
    ap (λ q. state_number z (cell_of (word_tape word) q)) e ∙ omega (arith, blank)

beside : (z : ℕ) (word : List ℕ) (p : ℤ) → p ≢ pos 0 → state_number z (cell_of (word_tape word) p) ≡ letter_at word p
beside z word p other = elim (cases_Bool (int_eq p (pos 0))) [
  | inl same ↦ absurd (other ((Decides-int_eq p (pos 0)).0 same))
  | inr apart ↦ rw apart (cell-word word p)
]

-- the cell with the head
pub head_state : (z left j : ℕ) (word : List ℕ) → j ≡ left → start_state z left word j ≡ z
head_state z left j word e = at_head z word (pos j -ℤ pos left) (omega (arith, ints))

-- a cell with a letter
pub letter_state : (z left j k : ℕ) (word : List ℕ) → j ≡ left + suc k → start_state z left word j ≡ slice_index word k
letter_state z left j k word e =
    let place : (pos j -ℤ pos left) ≡ pos (suc k) = omega (arith, ints) in
    beside z word (pos j -ℤ pos left) (λ h. omega (arith, ints)) ∙ ap (letter_at word) place

-- a cell right of the head
pub right_state : (z left j : ℕ) (word : List ℕ) → left ≤ j → (j ≡ left → ⊥)
    → start_state z left word j ≡ slice_index word (j - left - 1)
right_state z left j word low other = elim (cases_lt left j) [
  | inl past ↦ letter_state z left j (j - left - 1) word (omega arith)
  | inr none ↦ absurd (other (omega arith))
]

-- beyond the word
pub blank_state : (z left j : ℕ) (word : List ℕ) → left ≤ j → (j ≡ left → ⊥) → length word ≤ j - left - 1
    → start_state z left word j ≡ 0
blank_state z left j word low other past = right_state z left j word low other ∙ get_or_past word (j - left - 1) 0 past

-- a cell left of the head
pub left_state : (z left j : ℕ) (word : List ℕ) → j < left → start_state z left word j ≡ 0
left_state z left j word low =
    let place : (pos j -ℤ pos left) ≡ negsuc (left - (j + 1)) = omega (arith, ints) in
    beside z word (pos j -ℤ pos left) (λ h. omega (arith, ints)) ∙ ap (letter_at word) place

-- one cell more
pub cells_pushed : (old now new : List ℕ) (z left n : ℕ) (word : List ℕ)
    → now ≡ old ++ map (start_state z left word) (range_with_len 0 n) → new ≡ now ++ (start_state z left word n ∷ [])
    → new ≡ old ++ map (start_state z left word) (range_with_len 0 (n + 1))
cells_pushed old now new z left n word before more =
    let count : 0 + n ≡ n = omega arith in
    more ∙ ap (λ xs. xs ++ (start_state z left word n ∷ [])) before
    ∙ append_assoc old (map (start_state z left word) (range_with_len 0 n)) (start_state z left word n ∷ [])
    ∙ ap (λ xs. old ++ xs) (sym (map-range_with_len_more (start_state z left word) 0 n n count))
