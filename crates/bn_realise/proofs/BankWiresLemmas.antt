-- The wires of a bank: where they begin and end, that they are one to one, and lists of them column by column.
use Rattle.std.specs.Prelude.{◌≡◌, ◌≢◌, ℕ, ◌+◌, ◌-◌, ◌<◌, ◌≤◌, List, [], ◌∷◌, ◌++◌, Some, None, refl, ◌⊎◌}
use Rattle.std.proofs.Common.{arith, sym, ap, subst, ◌∙◌, inl, inr}
use Rattle.std.proofs.lemmas.Bool.Decides.{eqb_tells, nat_tests}
use Rattle.std.proofs.lemmas.Option.{some_pair_parts}
use Rattle.bn_element.specs.Tables.{Table, IsReversible}
use Rattle.bn_circuits.specs.declared.line.Line.{Line}
use Rattle.bn_circuits.specs.declared.line.Wire.{Wire}
use Rattle.bn_element.specs.Rotary.{east, west}
use Rattle.bn_column.specs.Columns.{IsInner}
use Rattle.bn_circuits.specs.Circuits.{line_at}
use Rattle.bn_circuits.specs.Wirings.{AreWiresOf}
use Rattle.bn_circuits.proofs.WiringsLemmas.{IsWire, no_wires, joined_wires, more_wire, same_wires}
use Rattle.bn_column.specs.Nets.{wire_of}
use Rattle.bn_column.proofs.LadderLemmas.{inner-one_source, inner-IsInnerWithin, inner-row_from, inner-row_to}
use Rattle.bn_realise.specs.Banks.{column_at, IsBankWire, inner, along, across, bank_input_line, bank_output_line}
use Rattle.bn_realise.specs.Banks.{turning_line}
use Rattle.bn_realise.proofs.BankCrossingLemmas.{later_column, other_column}
use Rattle.bn_realise.specs.BankWires.{IsWithinLines, IsRowWire, IsEarlier, IsStage, IsHalf, onward, turned, in_row}
use Rattle.bn_realise.specs.BankWires.{inside, above, earlier, inside_it, before, beside}

-- two places of a bank are one only where column and row are
pub column_once : (b k j m x y : ℕ) → x ≤ k → y ≤ k → column_at b k j + x ≡ column_at b k m + y → (j ≡ m) × (x ≡ y)
column_once b k j m x y first second same =
    elim (eqb_tells j m) [
      | inl is ↦ (let e : column_at b k j ≡ column_at b k m = ap (column_at b k) is.1 in (is.1, omega arith))
      | inr apart ↦ absurd (other_column b k j m x y apart.1 first second same)
    ]

-- the numbers of a line
elements : (e f l m : ℕ) → line_at e l ≡ line_at f m → e ≡ f
elements e f l m same = ap (λ (x : Line). x.element) same

sides_apart : (e f l m : ℕ) → l ≢ m → line_at e l ≡ line_at f m → ⊥
sides_apart e f l m apart same = apart (ap (λ (x : Line). x.line) same)

module _ (b : ℕ) (t : Table) (reversible : IsReversible t) (square : t.outputs ≡ t.inputs) where
  -- a move leads from and to rows of the bank
  record IsMoveWithin (q i r o : ℕ) : Type 0 where
    state : q < t.states
    line : i < t.inputs
    next : r < t.states
    out : o < t.inputs

  move-within : (q i r o : ℕ) → t.go q i ≡ Some (r, o) → IsMoveWithin q i r o
  move-within q i r o goes =
      let departs = reversible.departs q i r o goes in
      let arrives = reversible.arrives q i r o goes in
      record { state = departs.0; line = departs.1; next = arrives.0; out = subst (λ n. o < n) square arrives.1 }

  pub bank_wire-IsWithinLines : (from to : Line) → IsBankWire b t from to → IsWithinLines b t from to
  bank_wire-IsWithinLines from to (inner j there is) =
      let h = inner-IsInnerWithin (column_at b t.inputs j) t.inputs from to is in
      let last = later_column b t.inputs j t.states there in
      record {
        from_low = omega (arith, h.from_low);
        from_high = omega (arith, h.from_high);
        from_line = h.from_line;
        to_low = omega (arith, h.to_low);
        to_high = omega (arith, h.to_high);
        to_line = h.to_line;
      }
  bank_wire-IsWithinLines from to (along j i next row leaves ends) =
      let last = later_column b t.inputs (j + 1) t.states next in
      let before = later_column b t.inputs j (j + 1) (omega arith) in
      rw (leaves, ends) (record {
        from_low = omega arith;
        from_high = omega arith;
        from_line = omega arith;
        to_low = omega arith;
        to_high = omega arith;
        to_line = omega arith;
      })
  bank_wire-IsWithinLines from to (across q i r o goes leaves ends) =
      let m = move-within q i r o goes in
      let first = later_column b t.inputs q t.states m.state in
      let second = later_column b t.inputs r t.states m.next in
      rw (leaves, ends) (record {
        from_low = omega arith;
        from_high = omega (arith, m.line);
        from_line = omega arith;
        to_low = omega arith;
        to_high = omega (arith, m.out);
        to_line = omega arith;
      })

  -- an end of an inner wire in a row's east or west
  no_inner_end : (j m r l : ℕ) (from to : Line) → j < t.states → r < t.inputs → (l ≡ east) ⊎ (l ≡ west)
      → to ≡ line_at (column_at b t.inputs m + r) l → IsInner (column_at b t.inputs j) t.inputs from to → ⊥
  no_inner_end j m r l from to there row side ends is =
      let at_end = subst (IsInner (column_at b t.inputs j) t.inputs from) ends is in
      let h = inner-IsInnerWithin (column_at b t.inputs j) t.inputs from (line_at (column_at b t.inputs m + r) l) at_end
      in
      elim (eqb_tells m j) [
        | inl same ↦ inner-row_to (column_at b t.inputs j) t.inputs r l from row side
            (subst (λ x. IsInner (column_at b t.inputs j) t.inputs from (line_at (column_at b t.inputs x + r) l)) same.1
            at_end)
        | inr apart ↦ (let x : ℕ = (column_at b t.inputs m + r) - column_at b t.inputs j in
            let place : column_at b t.inputs m + r ≡ column_at b t.inputs j + x = omega (arith, h.to_low) in
            other_column b t.inputs m j r x apart.1 (omega arith) (omega (arith, h.to_low, h.to_high)) place)
      ]

  -- nor a beginning of one
  no_inner_start : (j m r l : ℕ) (from to : Line) → j < t.states → r < t.inputs → (l ≡ east) ⊎ (l ≡ west)
      → from ≡ line_at (column_at b t.inputs m + r) l → IsInner (column_at b t.inputs j) t.inputs from to → ⊥
  no_inner_start j m r l from to there row side leaves is =
      let at_start = subst (λ x. IsInner (column_at b t.inputs j) t.inputs x to) leaves is in
      let h = inner-IsInnerWithin (column_at b t.inputs j) t.inputs (line_at (column_at b t.inputs m + r) l) to at_start
      in
      elim (eqb_tells m j) [
        | inl same ↦ inner-row_from (column_at b t.inputs j) t.inputs r l to row side
            (subst (λ x. IsInner (column_at b t.inputs j) t.inputs (line_at (column_at b t.inputs x + r) l) to) same.1
            at_start)
        | inr apart ↦ (let x : ℕ = (column_at b t.inputs m + r) - column_at b t.inputs j in
            let place : column_at b t.inputs m + r ≡ column_at b t.inputs j + x = omega (arith, h.from_low) in
            other_column b t.inputs m j r x apart.1 (omega arith) (omega (arith, h.from_low, h.from_high)) place)
      ]

  -- no own wire leaves an output line
  pub output-no_wire : (o : ℕ) (to : Line) → o < t.inputs → IsBankWire b t (bank_output_line b t o) to → ⊥
  output-no_wire o to row (inner j there is) = no_inner_start j (t.states - 1) o east (bank_output_line b t o) to there
      row (inl refl) refl is
  output-no_wire o to row (along j i next line leaves ends) =
      let same = elements (column_at b t.inputs (t.states - 1) + o) (column_at b t.inputs j + i) east east leaves in
      let one = column_once b t.inputs (t.states - 1) j o i (omega arith) (omega arith) same in
      absurd (omega (arith, one.0))
  output-no_wire o to row (across q i r p goes leaves ends) =
      sides_apart (column_at b t.inputs (t.states - 1) + o) (column_at b t.inputs q + i) east west (omega arith) leaves

  -- an own wire that leaves a turning line is that of the pair's move
  pub record IsTurned (q i : ℕ) (to : Line) : Type 0 where
    pub next : ℕ
    pub out : ℕ
    pub goes : t.go q i ≡ Some (next, out)
    pub out_low : out < t.inputs
    pub ends : to ≡ line_at (column_at b t.inputs next + out) east

  pub turning-wire : (q i : ℕ) (to : Line) → i < t.inputs → IsBankWire b t (turning_line b t q i) to → IsTurned q i to
  turning-wire q i to row (inner j there is) = absurd (no_inner_start j q i west (turning_line b t q i) to there row
      (inr refl) refl is)
  turning-wire q i to row (along j x next line leaves ends) =
      absurd (sides_apart (column_at b t.inputs q + i) (column_at b t.inputs j + x) west east (omega arith) leaves)
  turning-wire q i to row (across p x r o goes leaves ends) =
      let same = elements (column_at b t.inputs q + i) (column_at b t.inputs p + x) west west leaves in
      let m = move-within p x r o goes in
      let one = column_once b t.inputs q p i x (omega arith) (omega (arith, m.line)) same in
      record { next = r; out = o; goes = rw (one.0, one.1) goes; out_low = m.out; ends = ends }

  -- a bank's own wire leads to no input line of the bank
  pub bank_wire-no_input : (from to : Line) → IsBankWire b t from to → (i : ℕ) → i < t.inputs → to ≢ bank_input_line b i
  bank_wire-no_input from to (inner j there is) i row same =
      let first : line_at (b + i) west ≡ line_at (column_at b t.inputs 0 + i) west =
      ap (λ e. line_at e west) (omega arith) in
      no_inner_end j 0 i west from to there row (inr refl) (same ∙ first) is
  bank_wire-no_input from to (along j m next line leaves ends) i row same =
      let place : column_at b t.inputs (j + 1) + m ≡ b + i = elements (column_at b t.inputs (j + 1) + m) (b + i) west
      west (sym ends ∙ same) in
      let before = later_column b t.inputs 0 (j + 1) (omega arith) in
      absurd (omega arith)
  bank_wire-no_input from to (across q m r o goes leaves ends) i row same =
      sides_apart (column_at b t.inputs r + o) (b + i) east west (omega arith) (sym ends ∙ same)

  module _ (some : 0 < t.inputs) where
    -- one output line at most leads to an input line
    pub bank_wire-one_source : (from line to : Line) → IsBankWire b t from to → IsBankWire b t line to → from ≡ line
    bank_wire-one_source from line to (inner j there is) (inner m here other) =
        let one = inner-IsInnerWithin (column_at b t.inputs j) t.inputs from to is in
        let two = inner-IsInnerWithin (column_at b t.inputs m) t.inputs line to other in
        let x : ℕ = to.element - column_at b t.inputs j in
        let y : ℕ = to.element - column_at b t.inputs m in
        let place : column_at b t.inputs j + x ≡ column_at b t.inputs m + y = omega (arith, one.to_low, two.to_low) in
        let same = column_once b t.inputs j m x y (omega (arith, one.to_low, one.to_high))
        (omega (arith, two.to_low, two.to_high)) place in
        inner-one_source (column_at b t.inputs j) t.inputs some from line to is
        (subst (λ e. IsInner (column_at b t.inputs e) t.inputs line to) (sym same.0) other)
    bank_wire-one_source from line to (inner j there is) (along m i next row leaves ends) =
        absurd (no_inner_end j (m + 1) i west from to there row (inr refl) ends is)
    bank_wire-one_source from line to (inner j there is) (across q i r o goes leaves ends) =
        absurd (no_inner_end j r o east from to there (move-within q i r o goes).out (inl refl) ends is)
    bank_wire-one_source from line to (along m i next row leaves ends) (inner j there is) =
        absurd (no_inner_end j (m + 1) i west line to there row (inr refl) ends is)
    bank_wire-one_source from line to (along j i next row leaves ends) (along m x after low leads stops) =
        let same = elements (column_at b t.inputs (j + 1) + i) (column_at b t.inputs (m + 1) + x) west west
        (sym ends ∙ stops) in
        let one = column_once b t.inputs (j + 1) (m + 1) i x (omega arith) (omega arith) same in
        let column : j ≡ m = omega arith in
        leaves ∙ ap (λ e. line_at (column_at b t.inputs e + i) east) column
        ∙ ap (λ e. line_at (column_at b t.inputs m + e) east) one.1 ∙ sym leads
    bank_wire-one_source from line to (along j i next row leaves ends) (across q x r o goes leads stops) =
        absurd (sides_apart (column_at b t.inputs (j + 1) + i) (column_at b t.inputs r + o) west east (omega arith)
        (sym ends ∙ stops))
    bank_wire-one_source from line to (across q i r o goes leaves ends) (inner j there is) =
        absurd (no_inner_end j r o east line to there (move-within q i r o goes).out (inl refl) ends is)
    bank_wire-one_source from line to (across q x r o goes leads stops) (along j i next row leaves ends) =
        absurd (sides_apart (column_at b t.inputs (j + 1) + i) (column_at b t.inputs r + o) west east (omega arith)
        (sym ends ∙ stops))
    bank_wire-one_source from line to (across q i r o goes leaves ends) (across p x s y goes_too leads stops) =
        let same = elements (column_at b t.inputs r + o) (column_at b t.inputs s + y) east east (sym ends ∙ stops) in
        let first = move-within q i r o goes in
        let second = move-within p x s y goes_too in
        let one = column_once b t.inputs r s o y (omega (arith, first.out)) (omega (arith, second.out)) same in
        let back = reversible.undone q i r o goes in
        let back_too = reversible.undone p x s y goes_too in
        let here : t.back s y ≡ Some (q, i) = rw (← one.0, ← one.1) back in
        let pairs = some_pair_parts q p i x (sym here ∙ back_too) in
        leaves ∙ ap (λ e. line_at (column_at b t.inputs e + i) west) pairs.0
        ∙ ap (λ e. line_at (column_at b t.inputs p + e) west) pairs.1 ∙ sym leads

module _ (b : ℕ) (t : Table) where
  row-bank_wire : (j i : ℕ) (from to : Line) → i < t.inputs → IsRowWire b t j i from to → IsBankWire b t from to
  row-bank_wire j i from to row (onward next leaves ends) = along j i next row leaves ends
  row-bank_wire j i from to row (turned r o goes leaves ends) = across j i r o goes leaves ends

  earlier-bank_wire : (j : ℕ) (from to : Line) → j ≤ t.states → IsEarlier b t j from to → IsBankWire b t from to
  earlier-bank_wire j from to most (inside x low is) = inner x (omega arith) is
  earlier-bank_wire j from to most (in_row x y low row is) = row-bank_wire x y from to row is

  stage-bank_wire : (j i : ℕ) (from to : Line) → j < t.states → i ≤ t.inputs → IsStage b t j i from to
      → IsBankWire b t from to
  stage-bank_wire j i from to there most (earlier is) = earlier-bank_wire j from to (omega arith) is
  stage-bank_wire j i from to there most (inside_it is) = inner j there is
  stage-bank_wire j i from to there most (above y low is) = row-bank_wire j y from to (omega arith) is

  half-bank_wire : (j i : ℕ) (from to : Line) → j < t.states → i < t.inputs → IsHalf b t j i from to
      → IsBankWire b t from to
  half-bank_wire j i from to there row (before is) = stage-bank_wire j i from to there (omega arith) is
  half-bank_wire j i from to there row (beside next leaves ends) = along j i next row leaves ends

  -- where they begin
  row-from : (j i : ℕ) (from to : Line) → IsRowWire b t j i from to → from.element ≡ column_at b t.inputs j + i
  row-from j i from to (onward next leaves ends) = ap (λ (x : Line). x.element) leaves
  row-from j i from to (turned r o goes leaves ends) = ap (λ (x : Line). x.element) leaves

  earlier-from : (j : ℕ) (from to : Line) → IsEarlier b t j from to → from.element < column_at b t.inputs j
  earlier-from j from to (inside x low is) =
      let h = inner-IsInnerWithin (column_at b t.inputs x) t.inputs from to is in
      let last = later_column b t.inputs x j low in
      omega (arith, h.from_high)
  earlier-from j from to (in_row x y low row is) =
      let h = row-from x y from to is in
      let last = later_column b t.inputs x j low in
      omega arith

  -- the wires of row i begin where none of those before it does
  no_stage : (j i l : ℕ) (to : Line) → i < t.inputs → (l ≡ east) ⊎ (l ≡ west)
      → IsStage b t j i (line_at (column_at b t.inputs j + i) l) to → ⊥
  no_stage j i l to row side (earlier is) = (let h = earlier-from j (line_at (column_at b t.inputs j + i) l) to is in
      absurd (omega arith))
  no_stage j i l to row side (inside_it is) = inner-row_from (column_at b t.inputs j) t.inputs i l to row side is
  no_stage j i l to row side (above y low is) = (let h = row-from j y (line_at (column_at b t.inputs j + i) l) to is in
      absurd (omega arith))

  module _ (reversible : IsReversible t) (square : t.outputs ≡ t.inputs) (some : 0 < t.inputs) where
    one_source : (from line to : Line) → IsBankWire b t from to → IsBankWire b t line to → from ≡ line
    one_source = bank_wire-one_source b t reversible square some

    -- an own wire more, which begins where none of the others does
    more_own : (Leads : Line → Line → Type 0) (ws : List Wire) (w : Wire)
        → ((from to : Line) → Leads from to → IsBankWire b t from to) → IsBankWire b t w.from w.to → AreWiresOf Leads ws
        → ((to : Line) → Leads w.from to → ⊥) → AreWiresOf (λ from to. Leads from to ⊎ IsWire w from to) (ws ++ w ∷ [])
    more_own Leads ws w own is are no_from =
        more_wire Leads ws w are no_from (λ from leads. no_from w.to
        (subst (λ x. Leads x w.to) (one_source from w.from w.to (own from w.to leads) is) leads))

    pub stage_begins : (j : ℕ) (ws more : List Wire) → j < t.states → AreWiresOf (IsEarlier b t j) ws
        → AreWiresOf (IsInner (column_at b t.inputs j) t.inputs) more → AreWiresOf (IsStage b t j 0) (ws ++ more)
    stage_begins j ws more there are inners =
        joined_wires (IsEarlier b t j) (IsInner (column_at b t.inputs j) t.inputs) (IsStage b t j 0) ws more are inners
        apart
        (λ from to line one other. apart from to to one (subst (λ x. IsInner (column_at b t.inputs j) t.inputs x to)
        (one_source line from to (inner j there other) (earlier-bank_wire j from to (omega arith) one)) other))
        (λ from to h. earlier h)
        (λ from to h. inside_it h)
        either
      where
        apart : (from to line : Line) → IsEarlier b t j from to → IsInner (column_at b t.inputs j) t.inputs from line
            → ⊥
        apart from to line one other =
            let h = earlier-from j from to one in
            let low = (inner-IsInnerWithin (column_at b t.inputs j) t.inputs from line other).from_low in
            absurd (omega arith)

        either : (from to : Line) → IsStage b t j 0 from to → IsEarlier b t j from to
            ⊎ IsInner (column_at b t.inputs j) t.inputs from to
        either from to (earlier is) = inl is
        either from to (inside_it is) = inr is
        either from to (above y low is) = absurd (omega arith)

    pub half_with : (j i : ℕ) (ws : List Wire) → j + 1 < t.states → i < t.inputs → AreWiresOf (IsStage b t j i) ws
        → AreWiresOf (IsHalf b t j i) (ws ++ wire_of (column_at b t.inputs j + i) east
        (column_at b t.inputs (j + 1) + i) west ∷ [])
    half_with j i ws next row are =
        let w : Wire = wire_of (column_at b t.inputs j + i) east (column_at b t.inputs (j + 1) + i) west in
        let both = more_own (IsStage b t j i) ws w (λ from to h. stage-bank_wire j i from to (omega arith) (omega arith)
        h) (along j i next row refl refl) are (λ to h. no_stage j i east to row (inl refl) h) in
        same_wires (λ from to. IsStage b t j i from to ⊎ IsWire w from to) (IsHalf b t j i) (ws ++ w ∷ []) both first
        second
      where
        first : (from to : Line) → IsStage b t j i from to ⊎ IsWire
            (wire_of (column_at b t.inputs j + i) east (column_at b t.inputs (j + 1) + i) west) from to
            → IsHalf b t j i from to
        first from to (inl is) = before is
        first from to (inr is) = beside next is.leaves is.ends

        second : (from to : Line) → IsHalf b t j i from to → IsStage b t j i from to
            ⊎ IsWire (wire_of (column_at b t.inputs j + i) east (column_at b t.inputs (j + 1) + i) west) from to
        second from to (before is) = inl is
        second from to (beside next leaves ends) = inr (record { leaves = leaves; ends = ends })

    pub half_without : (j i : ℕ) (ws : List Wire) → t.states ≤ j + 1 → AreWiresOf (IsStage b t j i) ws
        → AreWiresOf (IsHalf b t j i) ws
    half_without j i ws last are = same_wires (IsStage b t j i) (IsHalf b t j i) ws are (λ from to h. before h) back
      where
        back : (from to : Line) → IsHalf b t j i from to → IsStage b t j i from to
        back from to (before is) = is
        back from to (beside next leaves ends) = absurd (omega arith)

    last_or_earlier : (y i : ℕ) → y < i + 1 → (y < i) ⊎ (y ≡ i)
    last_or_earlier y i h = grind (arith, nat_tests)

    pub stage_with : (j i r o : ℕ) (ws : List Wire) → j < t.states → i < t.inputs → t.go j i ≡ Some (r, o)
        → AreWiresOf (IsHalf b t j i) ws → AreWiresOf (IsStage b t j (i + 1))
        (ws ++ wire_of (column_at b t.inputs j + i) west (column_at b t.inputs r + o) east ∷ [])
    stage_with j i r o ws there row goes are =
        let w : Wire = wire_of (column_at b t.inputs j + i) west (column_at b t.inputs r + o) east in
        let both = more_own (IsHalf b t j i) ws w (λ from to h. half-bank_wire j i from to there row h)
        (across j i r o goes refl refl) are no_half in
        same_wires (λ from to. IsHalf b t j i from to ⊎ IsWire w from to) (IsStage b t j (i + 1)) (ws ++ w ∷ []) both
        first second
      where
        no_half : (to : Line) → IsHalf b t j i (line_at (column_at b t.inputs j + i) west) to → ⊥
        no_half to (before is) = no_stage j i west to row (inr refl) is
        no_half to (beside next leaves ends) = sides_apart (column_at b t.inputs j + i) (column_at b t.inputs j + i)
            west east (omega arith) leaves

        first : (from to : Line) → IsHalf b t j i from to ⊎ IsWire
            (wire_of (column_at b t.inputs j + i) west (column_at b t.inputs r + o) east) from to
            → IsStage b t j (i + 1) from to
        first from to (inl (before (earlier is))) = earlier is
        first from to (inl (before (inside_it is))) = inside_it is
        first from to (inl (before (above y low is))) = above y (omega arith) is
        first from to (inl (beside next leaves ends)) = above i (omega arith) (onward next leaves ends)
        first from to (inr is) = above i (omega arith) (turned r o goes is.leaves is.ends)

        of_row : (y : ℕ) (from to : Line) → IsRowWire b t j y from to → (y < i) ⊎ (y ≡ i)
            → IsHalf b t j i from to ⊎ IsWire (wire_of (column_at b t.inputs j + i) west (column_at b t.inputs r + o)
            east) from to
        of_row y from to is (inl low) = inl (before (above y low is))
        of_row y from to (onward next leaves ends) (inr same) =
            inl (beside next (leaves ∙ ap (λ x. line_at (column_at b t.inputs j + x) east) same)
            (ends ∙ ap (λ x. line_at (column_at b t.inputs (j + 1) + x) west) same))
        of_row y from to (turned s p goes_too leaves ends) (inr same) =
            let at_i : t.go j i ≡ Some (s, p) = ap (t.go j) (sym same) ∙ goes_too in
            let pairs = some_pair_parts s r p o (sym at_i ∙ goes) in
            inr (record {
              leaves = leaves ∙ ap (λ x. line_at (column_at b t.inputs j + x) west) same;
              ends = ends
                  ∙ ap (λ x. line_at (column_at b t.inputs x + p) east) pairs.0
                  ∙ ap (λ x. line_at (column_at b t.inputs r + x) east) pairs.1;
            })

        second : (from to : Line) → IsStage b t j (i + 1) from to
            → IsHalf b t j i from to ⊎ IsWire (wire_of (column_at b t.inputs j + i) west (column_at b t.inputs r + o)
            east) from to
        second from to (earlier is) = inl (before (earlier is))
        second from to (inside_it is) = inl (before (inside_it is))
        second from to (above y low is) = of_row y from to is (last_or_earlier y i low)

    pub stage_without : (j i : ℕ) (ws : List Wire) → t.go j i ≡ None → AreWiresOf (IsHalf b t j i) ws
        → AreWiresOf (IsStage b t j (i + 1)) ws
    stage_without j i ws stays are = same_wires (IsHalf b t j i) (IsStage b t j (i + 1)) ws are first second
      where
        first : (from to : Line) → IsHalf b t j i from to → IsStage b t j (i + 1) from to
        first from to (before (earlier is)) = earlier is
        first from to (before (inside_it is)) = inside_it is
        first from to (before (above y low is)) = above y (omega arith) is
        first from to (beside next leaves ends) = above i (omega arith) (onward next leaves ends)

        of_row : (y : ℕ) (from to : Line) → IsRowWire b t j y from to → (y < i) ⊎ (y ≡ i) → IsHalf b t j i from to
        of_row y from to is (inl low) = before (above y low is)
        of_row y from to (onward next leaves ends) (inr same) = beside next
            (leaves ∙ ap (λ x. line_at (column_at b t.inputs j + x) east) same)
            (ends ∙ ap (λ x. line_at (column_at b t.inputs (j + 1) + x) west) same)
        of_row y from to (turned s p goes_too leaves ends) (inr same) =
            (let at_i : t.go j i ≡ Some (s, p) = ap (t.go j) (sym same) ∙ goes_too in absurd (cc))

        second : (from to : Line) → IsStage b t j (i + 1) from to → IsHalf b t j i from to
        second from to (earlier is) = before (earlier is)
        second from to (inside_it is) = before (inside_it is)
        second from to (above y low is) = of_row y from to is (last_or_earlier y i low)

    pub stage_ends : (j i : ℕ) (ws : List Wire) → i ≡ t.inputs → AreWiresOf (IsStage b t j i) ws
        → AreWiresOf (IsEarlier b t (j + 1)) ws
    stage_ends j i ws all are = same_wires (IsStage b t j i) (IsEarlier b t (j + 1)) ws are first second
      where
        first : (from to : Line) → IsStage b t j i from to → IsEarlier b t (j + 1) from to
        first from to (earlier (inside x low is)) = inside x (omega arith) is
        first from to (earlier (in_row x y low row is)) = in_row x y (omega arith) row is
        first from to (inside_it is) = inside j (omega arith) is
        first from to (above y low is) = in_row j y (omega arith) (omega arith) is

        inner_of : (x : ℕ) (from to : Line) → IsInner (column_at b t.inputs x) t.inputs from to → (x < j) ⊎ (x ≡ j)
            → IsStage b t j i from to
        inner_of x from to is (inl low) = earlier (inside x low is)
        inner_of x from to is (inr same) = inside_it (subst (λ e. IsInner (column_at b t.inputs e) t.inputs from to)
            same is)

        row_of : (x y : ℕ) (from to : Line) → y < t.inputs → IsRowWire b t x y from to → (x < j) ⊎ (x ≡ j)
            → IsStage b t j i from to
        row_of x y from to row is (inl low) = earlier (in_row x y low row is)
        row_of x y from to row is (inr same) = above y (omega arith) (subst (λ e. IsRowWire b t e y from to) same is)

        second : (from to : Line) → IsEarlier b t (j + 1) from to → IsStage b t j i from to
        second from to (inside x low is) = inner_of x from to is (last_or_earlier x j low)
        second from to (in_row x y low row is) = row_of x y from to row is (last_or_earlier x j low)

    pub none_earlier : AreWiresOf (IsEarlier b t 0) []
    none_earlier = no_wires (IsEarlier b t 0) never
      where
        never : (from to : Line) → IsEarlier b t 0 from to → ⊥
        never from to (inside x low is) = absurd (omega arith)
        never from to (in_row x y low row is) = absurd (omega arith)

    pub all_earlier : (j : ℕ) (ws : List Wire) → j ≡ t.states → AreWiresOf (IsEarlier b t j) ws
        → AreWiresOf (IsBankWire b t) ws
    all_earlier j ws all are = same_wires (IsEarlier b t j) (IsBankWire b t) ws are
        (λ from to h. earlier-bank_wire j from to (omega arith) h) second
      where
        second : (from to : Line) → IsBankWire b t from to → IsEarlier b t j from to
        second from to (inner x there is) = inside x (omega arith) is
        second from to (along x y next row leaves ends) = in_row x y (omega arith) row (onward next leaves ends)
        second from to (across q y r o goes leaves ends) =
            let m = move-within b t reversible square q y r o goes in
            in_row q y (omega (arith, m.state)) m.line (turned r o goes leaves ends)
