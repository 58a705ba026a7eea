-- What a cell's move does with the head, by numbers.
use Rattle.std.specs.Prelude.{◌≡◌, ℕ, ◌+◌, ◌*◌, ◌<◌, ◌≤◌, nat_lt, Option, Some, None, refl, ◌⊎◌}
use Rattle.std.proofs.Common.{zero, suc, arith, subst, inl, inr}
use Rattle.std.proofs.lemmas.Bool.{cases_Bool, ltb-true}
use Rattle.std.proofs.lemmas.Option.{some_pair_parts}
use Rattle.bn_cell.specs.Laws.{IsStateOf}
use Rattle.bn_cell.specs.Reversible.{Whole, whole, numbers, state_numbers, valid_state, valid_line}
use Rattle.bn_network.specs.declared.cell_line.CellLine.{CellLine}
use Rattle.bn_network.specs.declared.cell_line.CellLine.TheVariants.{Read, Write, ShiftRight, ShiftLeft, TakeRight}
use Rattle.bn_network.specs.declared.cell_line.CellLine.TheVariants.{Answer, DoneWrite, DoneRight, DoneLeft, TakeLeft}
use Rattle.bn_network.specs.Cells.{CellState, Plain, Head, cell_go, IsLineOf, cell_table, by_numbers, line_number}
use Rattle.bn_network.specs.Cells.{cell_line, cell_line_count, state_number, state_of}

-- the lines that bring a head
abbrev pub IsTake : ℕ → ℕ → Type 0
IsTake z i = (i ≡ z + 3) ⊎ (i ≡ 2 * z + 7)

-- and those that bring none
abbrev pub IsNoTake : ℕ → ℕ → Type 0
IsNoTake z i = (i ≡ z + 3 → ⊥) × (i ≡ 2 * z + 7 → ⊥)

-- a cell keeps its head or has none, takes one, or gives it away
pub data CellMove (z q i r o : ℕ) : Type 0 where
  keeps : (z ≤ r → z ≤ q) → IsNoTake z o → CellMove z q i r o
  takes : IsTake z i → q < z → IsNoTake z o → CellMove z q i r o
  gives : z ≤ q → r < z → CellMove z q i r o

-- a cell's move by names
by_names : (z : ℕ) (q : CellState) (l : CellLine) → IsStateOf z q → IsLineOf z l
    → Whole (cell_go q l) (λ m. CellMove z (state_number z q) (line_number z l) (state_number z m.0)
    (line_number z m.1))
by_names z (Plain t) Read is line = keeps (λ h. h) (λ e. omega arith, λ e. omega arith)
by_names z (Plain t) (Write u) is line = keeps (λ h. h) (λ e. omega arith, λ e. omega arith)
by_names z (Plain t) ShiftRight is line = keeps (λ h. h) (λ e. omega arith, λ e. omega arith)
by_names z (Plain t) ShiftLeft is line = keeps (λ h. h) (λ e. omega arith, λ e. omega arith)
by_names z (Plain t) TakeRight is line = takes (inl refl) is (λ e. omega arith, λ e. omega arith)
by_names z (Plain t) (Answer u) is line = keeps (λ h. h) (λ e. omega arith, λ e. omega arith)
by_names z (Plain t) DoneWrite is line = keeps (λ h. h) (λ e. omega arith, λ e. omega arith)
by_names z (Plain t) DoneRight is line = keeps (λ h. h) (λ e. omega arith, λ e. omega arith)
by_names z (Plain t) DoneLeft is line = keeps (λ h. h) (λ e. omega arith, λ e. omega arith)
by_names z (Plain t) TakeLeft is line = takes (inr refl) is (λ e. omega arith, λ e. omega arith)
by_names z (Head t) Read is line = keeps (λ h. omega arith) (λ e. omega arith, λ e. omega arith)
by_names z (Head zero) (Write u) is line = keeps (λ h. omega arith) (λ e. omega arith, λ e. omega arith)
by_names z (Head (suc t)) (Write u) is line = tt
by_names z (Head t) ShiftRight is line = gives (omega arith) is
by_names z (Head t) ShiftLeft is line = gives (omega arith) is
by_names z (Head t) _ is line = tt

-- equal numbers, the same move
same_move : (z q q' i i' r r' o o' : ℕ) → q ≡ q' → i ≡ i' → r ≡ r' → o ≡ o' → CellMove z q i r o
    → CellMove z q' i' r' o'
same_move z q q' i i' r r' o o' eq ei er eo h = subst (λ w. CellMove z q' i' r' w) eo
    (subst (λ w. CellMove z q' i' w o) er (subst (λ w. CellMove z q' w r o) ei (subst (λ w. CellMove z w i r o) eq h)))

-- a cell's move by numbers
pub cell_moves : (z q i r o : ℕ) → (cell_table z).go q i ≡ Some (r, o) → CellMove z q i r o
cell_moves z q i r o e = elim (cases_Bool (nat_lt q (2 * z))) [
  | inl a ↦ elim (cases_Bool (nat_lt i (cell_line_count z))) [
    | inl b ↦ found (cell_go (state_of z q) (cell_line z i)) refl (rw (a, b) at e) (ltb-true q (2 * z) a)
        (ltb-true i (cell_line_count z) b)
    | inr b ↦ absurd (none None refl (rw (a, b) at e))
  ]
  | inr a ↦ absurd (none None refl (rw a at e))
]
  where
    none : (m : Option (ℕ × ℕ)) → m ≡ None → m ≡ Some (r, o) → ⊥
    none m d e = cc

    found : (m : Option (CellState × CellLine)) → cell_go (state_of z q) (cell_line z i) ≡ m
        → by_numbers z m ≡ Some (r, o) → q < 2 * z → i < cell_line_count z
        → CellMove z q i r o
    found None f g qn inn = absurd (cc)
    found (Some m) f g qn inn =
        let move = whole (cell_go (state_of z q) (cell_line z i))
        (λ m. CellMove z (state_number z (state_of z q)) (line_number z (cell_line z i)) (state_number z m.0)
        (line_number z m.1)) m (by_names z (state_of z q) (cell_line z i) (valid_state z q qn) (valid_line z i inn))
        f in
        let parts = some_pair_parts (state_number z m.0) r (line_number z m.1) o g in
        same_move z (state_number z (state_of z q)) q (line_number z (cell_line z i)) i (state_number z m.0) r
        (line_number z m.1) o (state_numbers z q qn) (numbers z i inn) parts.0 parts.1 move
