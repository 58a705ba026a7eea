-- The lines by which a signal comes out of a bank: none of the bank's own wires leaves them.
use Rattle.std.specs.Prelude.{◌≡◌, ℕ, ◌+◌, ◌-◌, ◌<◌, Option, Some, None, ◌⊎◌, refl}
use Rattle.std.proofs.Common.{arith, sym, ap, subst, ◌∙◌, inl, inr}
use Rattle.std.proofs.lemmas.Bool.Decides.{eqb_tells}
use Rattle.bn_element.specs.Tables.{Table, IsReversible}
use Rattle.bn_circuits.specs.declared.line.Line.{Line}
use Rattle.bn_element.specs.Rotary.{east, west}
use Rattle.bn_column.specs.Columns.{IsInner}
use Rattle.bn_circuits.specs.Circuits.{line_at}
use Rattle.bn_column.proofs.LadderLemmas.{inner-IsInnerWithin, inner-row_from}
use Rattle.bn_realise.specs.Banks.{column_at, IsBankWire, across, along, exit_after, inner, bank_output_line}
use Rattle.bn_realise.specs.Banks.{turning_line}
use Rattle.bn_realise.proofs.BankCrossingLemmas.{other_column}

line_numbers : (e f l m : ℕ) → line_at e l ≡ line_at f m → (e ≡ f) × (l ≡ m)
line_numbers e f l m same = (ap (λ (x : Line). x.element) same, ap (λ (x : Line). x.line) same)

module _ (b : ℕ) (t : Table) where
  -- no inner wire leaves a row's east or west
  no_inner_start : (j m r l : ℕ) (from to : Line) → j < t.states → r < t.inputs → (l ≡ east) ⊎ (l ≡ west)
      → from ≡ line_at (column_at b t.inputs m + r) l → IsInner (column_at b t.inputs j) t.inputs from to → ⊥
  no_inner_start j m r l from to there row side starts is =
      let at_start = subst (λ f. IsInner (column_at b t.inputs j) t.inputs f to) starts is in
      let h = inner-IsInnerWithin (column_at b t.inputs j) t.inputs (line_at (column_at b t.inputs m + r) l) to at_start
      in
      elim (eqb_tells m j) [
        | inl same ↦ inner-row_from (column_at b t.inputs j) t.inputs r l to row side
            (subst (λ x. IsInner (column_at b t.inputs j) t.inputs (line_at (column_at b t.inputs x + r) l) to) same.1
            at_start)
        | inr apart ↦ (let x : ℕ = (column_at b t.inputs m + r) - column_at b t.inputs j in
            let place : column_at b t.inputs m + r ≡ column_at b t.inputs j + x = omega (arith, h.from_low) in
            other_column b t.inputs m j r x apart.1 (omega arith) (omega (arith, h.from_low, h.from_high)) place)
      ]

  same_place : (j m x y : ℕ) → x < t.inputs → y < t.inputs → column_at b t.inputs j + x ≡ column_at b t.inputs m + y
      → (j ≡ m) × (x ≡ y)
  same_place j m x y first second same =
      elim (eqb_tells j m) [
        | inl is ↦ (let e : column_at b t.inputs j ≡ column_at b t.inputs m = ap (column_at b t.inputs) is.1 in
            (is.1, omega arith))
        | inr apart ↦ absurd (other_column b t.inputs j m x y apart.1 (omega arith) (omega arith) same)
      ]

  module _ (reversible : IsReversible t) where
    -- none leaves an output line
    no_output_wire : 0 < t.states → (o : ℕ) → o < t.inputs → (from to : Line) → from ≡ bank_output_line b t o
        → IsBankWire b t from to → ⊥
    no_output_wire some o row from to starts (inner j there is) =
        no_inner_start j (t.states - 1) o east from to there row (inl refl) starts is
    no_output_wire some o row from to starts (along j i next low leaves ends) =
        let numbers = line_numbers (column_at b t.inputs j + i) (column_at b t.inputs (t.states - 1) + o) east east
        (sym leaves ∙ starts) in
        let columns = (same_place j (t.states - 1) i o low row numbers.0).0 in
        omega arith
    no_output_wire some o row from to starts (across q i r x goes leaves ends) =
        let sides : west ≡ east = (line_numbers (column_at b t.inputs q + i) (column_at b t.inputs (t.states - 1) + o)
        west east (sym leaves ∙ starts)).1 in
        omega arith

    -- and none leaves the turning line of a pair without a move
    no_turning_wire : (q i : ℕ) → i < t.inputs → t.go q i ≡ None → (from to : Line) → from ≡ turning_line b t q i
        → IsBankWire b t from to → ⊥
    no_turning_wire q i row none from to starts (inner j there is) =
        no_inner_start j q i west from to there row (inr refl) starts is
    no_turning_wire q i row none from to starts (along j x next low leaves ends) =
        let sides : east ≡ west = (line_numbers (column_at b t.inputs j + x) (column_at b t.inputs q + i) east west
        (sym leaves ∙ starts)).1 in
        omega arith
    no_turning_wire q i row none from to starts (across p x r y goes leaves ends) =
        let low = (reversible.departs p x r y goes).1 in
        let numbers = line_numbers (column_at b t.inputs p + x) (column_at b t.inputs q + i) west west
        (sym leaves ∙ starts) in
        let same = same_place p q x i low row numbers.0 in
        let there : t.go q i ≡ Some (r, y) = subst (λ n. t.go n i ≡ Some (r, y)) same.0
        (subst (λ n. t.go p n ≡ Some (r, y)) same.1 goes) in
        cc

    -- the line by which a signal comes out has no wire
    pub no_exit_wire : (q i : ℕ) (to : Line) → q < t.states → i < t.inputs → t.outputs ≡ t.inputs
        → IsBankWire b t (exit_after b t q i (t.go q i)) to → ⊥
    no_exit_wire q i to state row square = by_move (t.go q i) refl
      where
        by_move : (o : Option (ℕ × ℕ)) → t.go q i ≡ o → IsBankWire b t (exit_after b t q i o) to → ⊥
        by_move None none wire = no_turning_wire q i row none (turning_line b t q i) to refl wire
        by_move (Some m) goes wire =
            let out : m.1 < t.inputs = subst (λ n. m.1 < n) square (reversible.arrives q i m.0 m.1 goes).1 in
            no_output_wire (omega arith) m.1 out (bank_output_line b t m.1) to refl wire
