-- The proof that a cell's table is reversible, which each element passes to the trait: its moves by names are
-- one-to-one, and so are its numbers.
use Rattle.std.proofs.Common.{◌≡◌, inl, inr, ℕ, zero, suc, ◌*◌, ◌<◌, nat_lt, Option, Some, None, refl, subst, arith}
use Rattle.std.proofs.lemmas.Bool.{cases_Bool, lt-ltb, ltb-true, ltb-false}
use Rattle.std.proofs.lemmas.Bool.Decides.{nat_tests}
use Rattle.std.proofs.lemmas.Option.{some_pair_parts}
use Rattle.bn_network.specs.declared.cell_line.CellLine.{CellLine}
use Rattle.bn_network.specs.declared.cell_line.CellLine.TheVariants.{Read, Write, ShiftRight, ShiftLeft, TakeRight}
use Rattle.bn_network.specs.declared.cell_line.CellLine.TheVariants.{Answer, DoneWrite, DoneRight, DoneLeft, TakeLeft}
use Rattle.bn_network.specs.Cells.{CellState, Plain, Head, cell_go, cell_back, IsLineOf, by_numbers, within_cell}
use Rattle.bn_network.specs.Cells.{line_number, cell_line, cell_line_count, state_number, state_of}
use Rattle.bn_cell.specs.Laws.{CellsAreReversible, IsStateOf}

-- ---- moves by names

abbrev pub Whole : {A : Type 0} → Option A → (A → Type 0) → Type 0
Whole None P = Unit {0}
Whole (Some x) P = P x

pub whole : {A : Type 0} (o : Option A) (P : A → Type 0) (x : A) → Whole o P → o ≡ Some x → P x
whole o P x w e = let f : Option _ → Type 0 = λ v. Whole v P in subst f e w

pub forth : (q : CellState) (i : CellLine) → Whole (cell_go q i) (λ m. cell_back m.0 m.1 ≡ Some (q, i))
forth (Plain t) TakeRight = refl
forth (Plain t) TakeLeft = refl
forth (Plain t) _ = refl
forth (Head t) Read = refl
forth (Head zero) (Write u) = refl
forth (Head (suc t)) (Write u) = tt
forth (Head t) ShiftRight = refl
forth (Head t) ShiftLeft = refl
forth (Head t) _ = tt

pub back : (q : CellState) (i : CellLine) → Whole (cell_back q i) (λ m. cell_go m.0 m.1 ≡ Some (q, i))
back (Plain t) TakeRight = refl
back (Plain t) TakeLeft = refl
back (Plain t) _ = refl
back (Head zero) (Answer u) = refl
back (Head (suc t)) (Answer u) = tt
back (Head t) DoneWrite = refl
back (Head t) DoneRight = refl
back (Head t) DoneLeft = refl
back (Head t) _ = tt

-- ---- numbers

pub states : (z : ℕ) (q : CellState) → IsStateOf z q → state_of z (state_number z q) ≡ q
states z (Plain t) lt = grind (arith, nat_tests)
states z (Head t) lt = grind (arith, nat_tests)

pub lines : (z : ℕ) (l : CellLine) → IsLineOf z l → cell_line z (line_number z l) ≡ l
lines z Read lt = refl
lines z (Write u) lt = grind (arith, nat_tests)
lines z (Answer u) lt = grind (arith, nat_tests)
lines z _ lt = grind (arith, nat_tests)

pub line_within : (z : ℕ) (l : CellLine) → IsLineOf z l → line_number z l < cell_line_count z
line_within z Read lt = omega arith
line_within z (Write u) lt = omega arith
line_within z (Answer u) lt = omega arith
line_within z _ lt = omega arith

pub state_within : (z : ℕ) (q : CellState) → IsStateOf z q → state_number z q < 2 * z
state_within z (Plain t) lt = omega arith
state_within z (Head t) lt = omega arith

pub numbers : (z n : ℕ) → n < cell_line_count z → line_number z (cell_line z n) ≡ n
numbers z n lt = grind (arith, nat_tests)

pub state_numbers : (z n : ℕ) → n < 2 * z → state_number z (state_of z n) ≡ n
state_numbers z n lt = grind (arith, nat_tests)

pub valid_state : (z n : ℕ) → n < 2 * z → IsStateOf z (state_of z n)
valid_state z n lt = elim (cases_Bool (nat_lt n z)) [
  | inl less ↦ rw less (ltb-true n z less)
  | inr more ↦ let ge = ltb-false n z more in rw more (omega arith)
]

pub valid_line : (z n : ℕ) → n < cell_line_count z → IsLineOf z (cell_line z n)
valid_line z n lt = go (cell_line z n) (numbers z n lt) refl
  where
    go : (l : CellLine) → line_number z l ≡ n → cell_line z n ≡ l → IsLineOf z l
    go (Write u) e f = grind (arith, nat_tests)
    go (Answer u) e f = grind (arith, nat_tests)
    go _ e f = tt

-- if the moves by names are one-to-one on the states and ports for z symbols, the moves by numbers are one-to-one
module _ (z : ℕ) (go back_go : CellState → CellLine → Option (CellState × CellLine))
    (turns : (q : CellState) (i : CellLine) → Whole (go q i) (λ m. back_go m.0 m.1 ≡ Some (q, i)))
    (keeps : (q : CellState) (l : CellLine) → 0 < z → IsStateOf z q → IsLineOf z l
    → Whole (go q l) (λ m. IsStateOf z m.0 × IsLineOf z m.1)) where
  record Both (q i r o : ℕ) : Type 0 where
    state : q < 2 * z
    line : i < cell_line_count z
    next : r < 2 * z
    out : o < cell_line_count z
    turned : within_cell z r o (by_numbers z (back_go (state_of z r) (cell_line z o))) ≡ Some (q, i)

  both : (q i r o : ℕ) → within_cell z q i (by_numbers z (go (state_of z q) (cell_line z i))) ≡ Some (r, o)
      → Both q i r o
  both q i r o e = elim (cases_Bool (nat_lt q (2 * z))) [
    | inl a ↦ elim (cases_Bool (nat_lt i (cell_line_count z))) [
      | inl b ↦ found (go (state_of z q) (cell_line z i)) refl (rw (a, b) at e) (ltb-true q (2 * z) a)
          (ltb-true i (cell_line_count z) b)
      | inr b ↦ absurd (none None refl (rw (a, b) at e))
    ]
    | inr a ↦ absurd (none None refl (rw a at e))
  ]
    where
      none : (m : Option (ℕ × ℕ)) → m ≡ None → m ≡ Some (r, o) → ⊥
      none m d e = cc

      found : (m : Option (CellState × CellLine)) → go (state_of z q) (cell_line z i) ≡ m → by_numbers z m ≡ Some (r, o)
          → q < 2 * z → i < cell_line_count z → Both q i r o
      found None f g qn inn = absurd (cc)
      found (Some m) f g qn inn =
          let valid = whole (go (state_of z q) (cell_line z i)) (λ m. IsStateOf z m.0 × IsLineOf z m.1) m
          (keeps (state_of z q) (cell_line z i) (omega arith) (valid_state z q qn) (valid_line z i inn)) f in
          let parts = some_pair_parts (state_number z m.0) r (line_number z m.1) o g in
          let there = whole (go (state_of z q) (cell_line z i))
          (λ m. back_go m.0 m.1 ≡ Some (state_of z q, cell_line z i)) m
          (turns (state_of z q) (cell_line z i)) f in
          let rn = state_within z m.0 valid.0 in
          let on = line_within z m.1 valid.1 in
          record {
            state = qn;
            line = inn;
            next = rw (← parts.0) rn;
            out = rw (← parts.1) on;
            turned = rw (
              ← parts.0,
              ← parts.1,
              lt-ltb (state_number z m.0) (2 * z) rn,
              lt-ltb (line_number z m.1) (cell_line_count z) on,
              states z m.0 valid.0,
              lines z m.1 valid.1,
              there,
              state_numbers z q qn,
              numbers z i inn,
            ) refl;
          }

keeps_go : (z : ℕ) (q : CellState) (l : CellLine) → 0 < z → IsStateOf z q → IsLineOf z l
    → Whole (cell_go q l) (λ m. IsStateOf z m.0 × IsLineOf z m.1)
keeps_go z (Plain t) TakeRight some is line = (is, tt)
keeps_go z (Plain t) TakeLeft some is line = (is, tt)
keeps_go z (Plain t) _ some is line = (is, line)
keeps_go z (Head t) Read some is line = (some, is)
keeps_go z (Head zero) (Write u) some is line = (line, tt)
keeps_go z (Head (suc t)) (Write u) some is line = tt
keeps_go z (Head t) ShiftRight some is line = (is, tt)
keeps_go z (Head t) ShiftLeft some is line = (is, tt)
keeps_go z (Head t) _ some is line = tt

keeps_back : (z : ℕ) (q : CellState) (l : CellLine) → 0 < z → IsStateOf z q → IsLineOf z l
    → Whole (cell_back q l) (λ m. IsStateOf z m.0 × IsLineOf z m.1)
keeps_back z (Plain t) TakeRight some is line = (is, tt)
keeps_back z (Plain t) TakeLeft some is line = (is, tt)
keeps_back z (Plain t) _ some is line = (is, line)
keeps_back z (Head zero) (Answer u) some is line = (line, tt)
keeps_back z (Head (suc t)) (Answer u) some is line = tt
keeps_back z (Head t) DoneWrite some is line = (some, is)
keeps_back z (Head t) DoneRight some is line = (is, tt)
keeps_back z (Head t) DoneLeft some is line = (is, tt)
keeps_back z (Head t) _ some is line = tt

pub cells-reversible : CellsAreReversible
cells-reversible z = record {
  undone = λ q i r o e. (both z cell_go cell_back forth (keeps_go z) q i r o e).turned;
  redone = λ q i r o e. (both z cell_back cell_go back (keeps_back z) r o q i e).turned;
  departs = λ q i r o e. let h = both z cell_go cell_back forth (keeps_go z) q i r o e in (h.state, h.line);
  arrives = λ q i r o e. let h = both z cell_go cell_back forth (keeps_go z) q i r o e in (h.next, h.out);
}
