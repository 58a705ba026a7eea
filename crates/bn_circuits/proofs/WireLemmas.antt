-- Wires kept in rows both ways are the wires of a circuit.
use Rattle.std.specs.Prelude.{◌≡◌, ℕ, ◌+◌, ◌^◌, ◌<◌, ◌↔◌, Bool, true, false, cond, if◌then◌else◌, List, [], ◌∷◌, ◌++◌}
use Rattle.std.specs.Prelude.{length, map, replicate, Option, Some, None, is_some, slice_get, slice_set}
use Rattle.std.specs.Prelude.{option_and_then, refl}
use Rattle.std.specs.Option.{option_map_or}
use Rattle.std.proofs.Common.{zero, suc, arith, sym, ap, subst, ◌∙◌, inl, inr, length-set}
use Rattle.std.proofs.lemmas.Bool.Decides.{eqb_tells, nat_tests}
use Rattle.std.proofs.lemmas.List.{length-map, length-replicate}
use Rattle.std.proofs.lemmas.Option.{option_and_then_some, slice_get_within}
use Rattle.bn_element.specs.Tables.{Table, IsReversible}
use Rattle.bn_circuits.specs.Circuits.{same_line, target, source, IsCircuit, IsInputOf, IsOutputOf, inputs_of}
use Rattle.bn_circuits.specs.Circuits.{outputs_of}
use Rattle.bn_circuits.proofs.StepLemmas.{same_lines, slice_get-set_same, slice_get-set_other}
use Rattle.bn_circuits.specs.declared.line.Line.{Line}
use Rattle.bn_circuits.specs.declared.line.Wire.{Wire}
use Rattle.bn_circuits.specs.Rows.{Rows, entry, width, put, wires_of_row, wires_of, IsWired}
use Rattle.bn_circuits.specs.Parts.{Parts, circuit}
use Rattle.bn_circuits.proofs.WireListLemmas.{line_tells}
use Rattle.bn_circuits.specs.Faults.{out_of_range, second_target, second_source, fault_of, is_within}

-- ---- the wires of rows, read as targets

-- a line of another element, or below the first cell, has no wire in the row
target-row_other : (e l : ℕ) (row : List (Option Line)) (from : Line) → (from.element ≡ e → from.line < l)
    → target (wires_of_row e l row) from ≡ None
target-row_other e l [] from other = refl
target-row_other e l (None ∷ row) from other = target-row_other e (suc l) row from
    (λ same. let below = other same in omega arith)
target-row_other e l (Some to ∷ row) from other =
    elim (line_tells (record { element = e; line = l }) from) [
      | inl here ↦ absurd (let below : from.line < l = other (sym (ap (λ (x : Line). x.element) here.1)) in let is : l
          ≡ from.line = ap (λ (x : Line). x.line) here.1 in omega arith)
      | inr there ↦ rw there.0 (target-row_other e (suc l) row from (λ same. let below = other same in omega arith))
    ]

-- what a cell of the row holds is the target of its line
target-row_at : (e l : ℕ) (row : List (Option Line)) (from : Line) (i : ℕ) → from.element ≡ e → from.line ≡ l + i
    → target (wires_of_row e l row) from ≡ option_and_then (λ cell. cell) (slice_get row i)
target-row_at e l [] from i same at_line = refl
target-row_at e l (None ∷ row) from zero same at_line = target-row_other e (suc l) row from (λ _. omega arith)
target-row_at e l (None ∷ row) from (suc i) same at_line = target-row_at e (suc l) row from i same (omega arith)
target-row_at e l (Some to ∷ row) from zero same at_line =
    elim (line_tells (record { element = e; line = l }) from) [
      | inl here ↦ rw here.0 refl
      | inr there ↦ absurd (there.1 (same_lines (record { element = e; line = l }) from (sym same) (omega arith)))
    ]
target-row_at e l (Some to ∷ row) from (suc i) same at_line =
    elim (line_tells (record { element = e; line = l }) from) [
      | inl here ↦ absurd (let is : l ≡ from.line = ap (λ (x : Line). x.line) here.1 in omega arith)
      | inr there ↦ rw there.0 (target-row_at e (suc l) row from i same (omega arith))
    ]

pub target-append_none : (xs ys : List Wire) (from : Line) → target xs from ≡ None
    → target (xs ++ ys) from ≡ target ys from
target-append_none [] ys from none = refl
target-append_none (x ∷ xs) ys from none =
    elim (line_tells x.from from) [
      | inl here ↦ absurd (let found = rw here.0 at none in cc)
      | inr there ↦ rw there.0 (target-append_none xs ys from (rw there.0 at none))
    ]

pub target-append_some : (xs ys : List Wire) (from to : Line) → target xs from ≡ Some to
    → target (xs ++ ys) from ≡ Some to
target-append_some [] ys from to some = absurd (cc)
target-append_some (x ∷ xs) ys from to some =
    elim (line_tells x.from from) [
      | inl here ↦ rw here.0 (rw here.0 at some)
      | inr there ↦ rw there.0 (target-append_some xs ys from to (rw there.0 at some))
    ]

target-rows_below : (e : ℕ) (rows : Rows) (from : Line) → from.element < e → target (wires_of e rows) from ≡ None
target-rows_below e [] from below = refl
target-rows_below e (row ∷ rows) from below =
    target-append_none (wires_of_row e 0 row) (wires_of (suc e) rows) from
    (target-row_other e 0 row from (λ same. absurd (omega arith)))
    ∙ target-rows_below (suc e) rows from (omega arith)

target-append_at : (xs ys : List Wire) (from : Line) (o : Option Line) → target xs from ≡ o → target ys from ≡ None
    → target (xs ++ ys) from ≡ o
target-append_at xs ys from None here rest = target-append_none xs ys from here ∙ rest
target-append_at xs ys from (Some to) here rest = target-append_some xs ys from to here

target-rows_at : (e : ℕ) (rows : Rows) (from : Line) (i : ℕ) → from.element ≡ e + i
    → target (wires_of e rows) from ≡ option_and_then (λ row. option_and_then (λ cell. cell) (slice_get row from.line))
    (slice_get rows i)
target-rows_at e [] from i at_element = refl
target-rows_at e (row ∷ rows) from zero at_element =
    target-append_at (wires_of_row e 0 row) (wires_of (suc e) rows) from
    (option_and_then (λ cell. cell) (slice_get row from.line))
    (target-row_at e 0 row from from.line (omega arith) (omega arith))
    (target-rows_below (suc e) rows from (omega arith))
target-rows_at e (row ∷ rows) from (suc i) at_element =
    target-append_none (wires_of_row e 0 row) (wires_of (suc e) rows) from
    (target-row_other e 0 row from (λ same. absurd (omega arith)))
    ∙ target-rows_at (suc e) rows from i (omega arith)

-- the target of an output line is what its cell holds
pub target-wires : (rows : Rows) (from : Line) → target (wires_of 0 rows) from ≡ entry rows from
target-wires rows from = target-rows_at 0 rows from from.element (omega arith)

-- ---- the same wires, read as sources

-- each wire of the list has the property
abbrev Each : (Wire → Type 0) → List Wire → Type 0
Each P [] = Unit {0}
Each P (w ∷ ws) = P w × Each P ws

each-append : (P : Wire → Type 0) (xs ys : List Wire) → Each P xs → Each P ys → Each P (xs ++ ys)
each-append P [] ys first second = second
each-append P (x ∷ xs) ys first second = (first.0, each-append P xs ys first.1 second)

each_of_row : (P : Wire → Type 0) (e l : ℕ) (row : List (Option Line))
    → ((i m : ℕ) (to : Line) → m ≡ l + i → slice_get row i ≡ Some (Some to)
    → P (record { from = record { element = e; line = m }; to = to })) → Each P (wires_of_row e l row)
each_of_row P e l [] all = tt
each_of_row P e l (None ∷ row) all = each_of_row P e (suc l) row (λ i m to sum has. all (suc i) m to (omega arith) has)
each_of_row P e l (Some to ∷ row) all = (
  all 0 l to (omega arith) refl,
  each_of_row P e (suc l) row (λ i m t sum has. all (suc i) m t (omega arith) has),
)

each_of_rows : (P : Wire → Type 0) (e : ℕ) (rows : Rows) → ((i m : ℕ) (row : List (Option Line)) (j : ℕ) (to : Line)
    → m ≡ e + i → slice_get rows i ≡ Some row → slice_get row j ≡ Some (Some to)
    → P (record { from = record { element = m; line = j }; to = to })) → Each P (wires_of e rows)
each_of_rows P e [] all = tt
each_of_rows P e (row ∷ rows) all =
    each-append P (wires_of_row e 0 row) (wires_of (suc e) rows)
    (each_of_row P e 0 row (λ i m to sum has. let same : i ≡ m = omega arith in all 0 e row m to (omega arith) refl
    (subst (λ x. slice_get row x ≡ Some (Some to)) same has)))
    (each_of_rows P (suc e) rows (λ i m r j to sum has cell. all (suc i) m r j to (omega arith) has cell))

-- each wire of the rows is an entry of the rows
each_entry : (rows : Rows) → Each (λ w. entry rows w.from ≡ Some w.to) (wires_of 0 rows)
each_entry rows =
    each_of_rows (λ w. entry rows w.from ≡ Some w.to) 0 rows (λ i m row j to sum has cell.
    let same : i ≡ m = omega arith in
    let at_m : slice_get rows m ≡ Some row = subst (λ x. slice_get rows x ≡ Some row) same has in
    rw (at_m, cell) refl)

source-sound : (rows : Rows) (ws : List Wire) → Each (λ w. entry rows w.from ≡ Some w.to) ws → (from to : Line)
    → source ws to ≡ Some from → entry rows from ≡ Some to
source-sound rows [] each from to found = absurd (cc)
source-sound rows (w ∷ ws) each from to found =
    elim (line_tells w.to to) [
      | inl here ↦ (let first = rw here.0 at found in let same : w.from
          ≡ from = cc in subst (λ x. entry rows x ≡ Some to) same (each.0 ∙ ap Some here.1))
      | inr there ↦ source-sound rows ws each.1 from to (rw there.0 at found)
    ]

source-complete : (ws : List Wire) (from to : Line) → target ws from ≡ Some to → source ws to ≡ None → ⊥
source-complete [] from to found none = absurd (cc)
source-complete (w ∷ ws) from to found none =
    elim (line_tells w.to to) [
      | inl here ↦ (let clash = rw here.0 at none in absurd (cc))
      | inr there ↦
          (elim (line_tells w.from from) [
            | inl first ↦ (let is = rw first.0 at found in there.1 (cc))
            | inr later ↦ source-complete ws from to (rw later.0 at found) (rw there.0 at none)
          ])
    ]

-- the source of an input line is what its cell holds
pub source-wires : (targets sources : Rows) → ((from to : Line)
    → (entry targets from ≡ Some to) ↔ (entry sources to ≡ Some from)) → (to : Line)
    → source (wires_of 0 targets) to ≡ entry sources to
source-wires targets sources paired to = by_source (source (wires_of 0 targets) to) (entry sources to) refl refl
  where
    by_source : (s e : Option Line) → source (wires_of 0 targets) to ≡ s → entry sources to ≡ e → s ≡ e
    by_source (Some from) e is cell = sym ((paired from to).0 (source-sound targets (wires_of 0 targets)
        (each_entry targets) from to is)) ∙ cell
    by_source None None is cell = refl
    by_source None (Some from) is cell = absurd (source-complete (wires_of 0 targets) from to
        (target-wires targets from ∙ (paired from to).1 cell) is)

-- ---- rows and the circuit

row_within : (row : Option (List (Option Line))) (l : ℕ) (to : Line)
    → option_and_then (λ r. option_and_then (λ cell. cell) (slice_get r l)) row ≡ Some to
    → l < option_map_or length row 0
row_within None l to h = absurd (cc)
row_within (Some row) l to h = option_and_then_some (λ (cell : Option Line). cell) (slice_get row l) to h
    (λ cell has _. slice_get_within row l cell has)

entry_within : (rows : Rows) (l to : Line) → entry rows l ≡ Some to → l.line < width rows l.element
entry_within rows l to h = row_within (slice_get rows l.element) l.line to h

-- wires kept both ways, of reversible elements, make a circuit
pub wired-IsCircuit : (tables : List Table) (targets sources : Rows)
    → ((e : ℕ) (t : Table) → slice_get tables e ≡ Some t → IsReversible t) → IsWired tables targets sources
    → IsCircuit (record { tables = tables; wires = wires_of 0 targets })
wired-IsCircuit tables targets sources reversible wired =
    record {
      reversible = reversible;
      one_to_one = λ from to. (
        λ found. source-wires targets sources wired.paired to ∙ (wired.paired from to).0
            (sym (target-wires targets from) ∙ found),
        λ found. target-wires targets from ∙ (wired.paired from to).1
            (sym (source-wires targets sources wired.paired to) ∙ found),
      );
      wired = λ from to found.
          let cell : entry targets from ≡ Some to = sym (target-wires targets from) ∙ found in
          let other : entry sources to ≡ Some from = (wired.paired from to).0 cell in (
            subst (λ n. from.line < n) (wired.outputs from.element) (entry_within targets from to cell),
            subst (λ n. to.line < n) (wired.inputs to.element) (entry_within sources to from other),
          );
    }

-- ---- a write

-- a row that has a cell is there
row_there : (o : Option (List (Option Line))) (l : ℕ) → l < option_map_or length o 0
    → (row : List (Option Line)) × (o ≡ Some row) × (l < length row)
row_there None l h = absurd (omega arith)
row_there (Some row) l h = (row, refl, h)

put_there : (rows : Rows) (w to : Line) (row : List (Option Line)) → slice_get rows w.element ≡ Some row
    → put rows w to ≡ slice_set rows w.element (slice_set row w.line (Some to))
put_there rows w to row there = rw there refl

-- a cell after a write: the line that was written, or what it held before
pub entry-put : (rows : Rows) (at_line to : Line) → at_line.line < width rows at_line.element → (l : Line)
    → entry (put rows at_line to) l ≡ (if same_line at_line l then Some to else entry rows l)
entry-put rows w to within l =
    let there = row_there (slice_get rows w.element) w.line within in
    let row = there.0 in
    let in_rows : w.element < length rows = slice_get_within rows w.element row there.1 in
    let written : put rows w to ≡ slice_set rows w.element (slice_set row w.line (Some to)) =
    put_there rows w to row there.1 in
    rw written
    (elim (eqb_tells w.element l.element) [
      | inl first ↦
          (let here : slice_get (slice_set rows w.element (slice_set row w.line (Some to))) l.element
          ≡ Some (slice_set row w.line (Some to)) = subst (λ e. slice_get
          (slice_set rows w.element (slice_set row w.line (Some to))) e ≡ Some (slice_set row w.line (Some to)))
          first.1 (slice_get-set_same rows w.element (slice_set row w.line (Some to)) in_rows) in
          let old : slice_get rows l.element ≡ Some row = subst (λ e. slice_get rows e ≡ Some row) first.1 there.1 in
          elim (eqb_tells w.line l.line) [
            | inl second ↦
                (let cell : slice_get (slice_set row w.line (Some to)) l.line
                ≡ Some (Some to) = subst (λ e. slice_get (slice_set row w.line (Some to)) e ≡ Some (Some to))
                second.1 (slice_get-set_same row w.line (Some to) there.2) in
                rw (here, cell, first.0, second.0) refl)
            | inr second ↦
                (let cell : slice_get (slice_set row w.line (Some to)) l.line
                ≡ slice_get row l.line = slice_get-set_other row w.line l.line (Some to) (λ e. second.1 (sym e)) in
                rw (here, cell, old, first.0, second.0) refl)
          ])
      | inr first ↦
          (let here : slice_get (slice_set rows w.element (slice_set row w.line (Some to))) l.element
          ≡ slice_get rows l.element = slice_get-set_other rows w.element l.element (slice_set row w.line (Some to))
          (λ e. first.1 (sym e)) in
          rw (here, first.0) refl)
    ])

pub width-put : (rows : Rows) (at_line to : Line) → at_line.line < width rows at_line.element → (e : ℕ)
    → width (put rows at_line to) e ≡ width rows e
width-put rows w to within e =
    let there = row_there (slice_get rows w.element) w.line within in
    let row = there.0 in
    let in_rows : w.element < length rows = slice_get_within rows w.element row there.1 in
    let written : put rows w to ≡ slice_set rows w.element (slice_set row w.line (Some to)) =
    put_there rows w to row there.1 in
    rw written
    (elim (eqb_tells w.element e) [
      | inl same ↦
          (let here : slice_get (slice_set rows w.element (slice_set row w.line (Some to))) e
          ≡ Some (slice_set row w.line (Some to)) = subst (λ x. slice_get
          (slice_set rows w.element (slice_set row w.line (Some to))) x ≡ Some (slice_set row w.line (Some to)))
          same.1 (slice_get-set_same rows w.element (slice_set row w.line (Some to)) in_rows) in
          let old : slice_get rows e ≡ Some row = subst (λ x. slice_get rows x ≡ Some row) same.1 there.1 in
          rw (here, old) (length-set row w.line (Some to)))
      | inr other ↦
          (let here : slice_get (slice_set rows w.element (slice_set row w.line (Some to))) e
          ≡ slice_get rows e = slice_get-set_other rows w.element e (slice_set row w.line (Some to))
          (λ q. other.1 (sym q)) in
          rw here refl)
    ])

-- a wire without fault: its lines are there, and no wire has them yet
pub record IsFree (tables : List Table) (wires : List Wire) (w : Wire) : Type 0 where
  pub output : IsOutputOf tables w.from
  pub input : IsInputOf tables w.to
  pub no_target : target wires w.from ≡ None
  pub no_source : source wires w.to ≡ None

-- after a free wire is written both ways, the rows are wired
pub connected : (tables : List Table) (targets sources : Rows) (w : Wire) → IsWired tables targets sources
    → IsFree tables (wires_of 0 targets) w → IsWired tables (put targets w.from w.to) (put sources w.to w.from)
connected tables targets sources w wired free =
    let out : w.from.line < width targets w.from.element = subst (λ n. w.from.line < n)
    (sym (wired.outputs w.from.element)) free.output in
    let inp : w.to.line < width sources w.to.element = subst (λ n. w.to.line < n) (sym (wired.inputs w.to.element))
    free.input in
    let no_target : entry targets w.from ≡ None = sym (target-wires targets w.from) ∙ free.no_target in
    let no_source : entry sources w.to ≡ None = sym (source-wires targets sources wired.paired w.to) ∙ free.no_source in
    record {
      outputs = λ e. width-put targets w.from w.to out e ∙ wired.outputs e;
      inputs = λ e. width-put sources w.to w.from inp e ∙ wired.inputs e;
      few = wired.few;
      paired = λ from to.
          let t = entry-put targets w.from w.to out from in
          let s = entry-put sources w.to w.from inp to in
          elim (line_tells w.from from) [
            | inl first ↦
                (elim (line_tells w.to to) [
                  | inl second ↦ (λ _. rw (s, second.0) (ap Some first.1), λ _. rw (t, first.0) (ap Some second.1))
                  | inr second ↦ (
                    λ h. absurd (second.1 (let found = rw (t, first.0) at h in cc)),
                    λ h. absurd (let found : entry sources to ≡ Some from = rw (s, second.0) at h in let
                        back = (wired.paired from to).1 found in let none = subst (λ x. entry targets x ≡ None) first.1
                        no_target in cc),
                  )
                ])
            | inr first ↦
                (elim (line_tells w.to to) [
                  | inl second ↦ (
                    λ h. absurd (let found : entry targets from ≡ Some to = rw (t, first.0) at h in let
                        forth = (wired.paired from to).0 found in let none = subst (λ x. entry sources x ≡ None)
                        second.1 no_source in cc),
                    λ h. absurd (first.1 (let found = rw (s, second.0) at h in cc)),
                  )
                  | inr second ↦ (
                    λ h. rw (s, second.0) ((wired.paired from to).0 (rw (t, first.0) at h)),
                    λ h. rw (t, first.0) ((wired.paired from to).1 (rw (s, second.0) at h)),
                  )
                ])
          ];
    }

-- ---- rows without a wire

empty_entry : (widths : List ℕ) (e l : ℕ) → option_and_then (λ row. option_and_then (λ cell. cell) (slice_get row l))
    (slice_get (map (λ w. replicate {A = Option Line} w None) widths) e) ≡ None
empty_entry [] e l = refl
empty_entry (w ∷ widths) zero l = empty_cell w l
  where
    empty_cell : (w l : ℕ) → option_and_then (λ cell. cell) (slice_get (replicate {A = Option Line} w None) l) ≡ None
    empty_cell zero l = refl
    empty_cell (suc w) zero = refl
    empty_cell (suc w) (suc l) = empty_cell w l
empty_entry (w ∷ widths) (suc e) l = empty_entry widths e l

empty_row-wires : (e l w : ℕ) → wires_of_row e l (replicate w None) ≡ []
empty_row-wires e l zero = refl
empty_row-wires e l (suc w) = empty_row-wires e (suc l) w

pub empty_wires : (e : ℕ) (widths : List ℕ) → wires_of e (map (λ w. replicate w None) widths) ≡ []
empty_wires e [] = refl
empty_wires e (w ∷ widths) = rw (empty_row-wires e 0 w) (empty_wires (suc e) widths)

-- rows without a wire, as wide as the elements have lines
unwired_rows : (tables : List Table) (outs ins : List ℕ) → length tables < 2 ^ 32
    → ((e : ℕ) → option_map_or (λ w. w) (slice_get outs e) 0 ≡ outputs_of tables e)
    → ((e : ℕ) → option_map_or (λ w. w) (slice_get ins e) 0 ≡ inputs_of tables e)
    → IsWired tables (map (λ w. replicate w None) outs) (map (λ w. replicate w None) ins)
unwired_rows tables outs ins few outputs inputs =
    record {
      outputs = λ e. empty_width outs e ∙ outputs e;
      inputs = λ e. empty_width ins e ∙ inputs e;
      few = few;
      paired = λ from to. (
        λ h. absurd (let none = empty_entry outs from.element from.line in cc),
        λ h. absurd (let none = empty_entry ins to.element to.line in cc),
      );
    }
  where
    empty_width : (widths : List ℕ) (e : ℕ) → width (map (λ w. replicate {A = Option Line} w None) widths) e
        ≡ option_map_or (λ w. w) (slice_get widths e) 0
    empty_width [] e = refl
    empty_width (w ∷ widths) zero = length-replicate w None
    empty_width (w ∷ widths) (suc e) = empty_width widths e

-- the counts of lines of each element, element by element
counts-outputs : {E : Type 0} (table : E → Table) (elements : List E) (e : ℕ)
    → option_map_or (λ w. w) (slice_get (map (λ x. (table x).outputs) elements) e) 0 ≡ outputs_of (map table elements) e
counts-outputs table [] e = refl
counts-outputs table (x ∷ elements) zero = refl
counts-outputs table (x ∷ elements) (suc e) = counts-outputs table elements e

counts-inputs : {E : Type 0} (table : E → Table) (elements : List E) (e : ℕ)
    → option_map_or (λ w. w) (slice_get (map (λ x. (table x).inputs) elements) e) 0 ≡ inputs_of (map table elements) e
counts-inputs table [] e = refl
counts-inputs table (x ∷ elements) zero = refl
counts-inputs table (x ∷ elements) (suc e) = counts-inputs table elements e

-- rows with an empty cell for each line are those of no wire
pub unwired-IsWired : {E : Type 0} (table : E → Table) (elements : List E) (outs ins : List ℕ) (targets sources : Rows)
    → length elements < 2 ^ 32 → outs ≡ map (λ x. (table x).outputs) elements
    → ins ≡ map (λ x. (table x).inputs) elements → targets ≡ map (λ w. replicate w None) outs
    → sources ≡ map (λ w. replicate w None) ins → IsWired (map table elements) targets sources
unwired-IsWired table elements outs ins targets sources few outs_are ins_are targets_are sources_are =
    let few' : length (map table elements) < 2 ^ 32 = omega (arith, length-map elements table, few) in
    rw (targets_are, sources_are, outs_are, ins_are) (unwired_rows (map table elements)
    (map (λ x. (table x).outputs) elements) (map (λ x. (table x).inputs) elements) few' (counts-outputs table elements)
    (counts-inputs table elements))

-- each table of the elements is reversible, where each element's is
pub tables-reversible : {E : Type 0} (table : E → Table) → ((x : E) → IsReversible (table x))
    → (elements : List E) (e : ℕ) (t : Table) → slice_get (map table elements) e ≡ Some t → IsReversible t
tables-reversible table law [] e t has = absurd (cc)
tables-reversible table law (x ∷ elements) zero t has = let same : table x ≡ t = cc in subst IsReversible same (law x)
tables-reversible table law (x ∷ elements) (suc e) t has = tables-reversible table law elements e t has

-- a wire in which the test finds no fault is free
pub free_of : (tables : List Table) (wires : List Wire) (w : Wire) → fault_of tables wires w ≡ None
    → IsFree tables wires w
free_of tables wires w none = by_tests (is_within tables w) (target wires w.from) (source wires w.to) refl refl refl
    none
  where
    by_tests : (b : Bool) (t s : Option Line) → is_within tables w ≡ b → target wires w.from ≡ t → source wires w.to ≡ s
        → cond b (cond (is_some t) (Some second_target) (cond (is_some s) (Some second_source) None))
        (Some out_of_range) ≡ None → IsFree tables wires w
    by_tests false t s within at_from at_to h = absurd (cc)
    by_tests true (Some t) s within at_from at_to h = absurd (cc)
    by_tests true None (Some s) within at_from at_to h = absurd (cc)
    by_tests true None None within at_from at_to h =
        record {
          output = (both_lines within).0;
          input = (both_lines within).1;
          no_target = at_from;
          no_source = at_to;
        }
      where
        both_lines : is_within tables w ≡ true → IsOutputOf tables w.from × IsInputOf tables w.to
        both_lines there = grind (arith, nat_tests)

-- the wires after a free wire is written both ways
pub connected-target : (tables : List Table) (targets sources : Rows) (w : Wire) → IsWired tables targets sources
    → IsFree tables (wires_of 0 targets) w → (from : Line) → target (wires_of 0 (put targets w.from w.to)) from
    ≡ (if same_line w.from from then Some w.to else target (wires_of 0 targets) from)
connected-target tables targets sources w wired free from =
    let out : w.from.line < width targets w.from.element = subst (λ n. w.from.line < n)
    (sym (wired.outputs w.from.element)) free.output in
    target-wires (put targets w.from w.to) from ∙ entry-put targets w.from w.to out from
    ∙ ap (λ o. if same_line w.from from then Some w.to else o) (sym (target-wires targets from))

pub connected-source : (tables : List Table) (targets sources : Rows) (w : Wire) → IsWired tables targets sources
    → IsFree tables (wires_of 0 targets) w → (to : Line) → source (wires_of 0 (put targets w.from w.to)) to
    ≡ (if same_line w.to to then Some w.from else source (wires_of 0 targets) to)
connected-source tables targets sources w wired free to =
    let inp : w.to.line < width sources w.to.element = subst (λ n. w.to.line < n) (sym (wired.inputs w.to.element))
    free.input in
    let after = connected tables targets sources w wired free in
    source-wires (put targets w.from w.to) (put sources w.to w.from) after.paired to
    ∙ entry-put sources w.to w.from inp to ∙ ap (λ o. if same_line w.to to then Some w.from else o)
    (sym (source-wires targets sources wired.paired to))

-- a net's circuit
pub view-IsCircuit : {E : Type 0} (table : E → Table) → ((x : E) → IsReversible (table x))
    → (elements : List E) (targets sources : Rows) (now : Parts E) → IsWired (map table elements) targets sources
    → record { elements = elements; wires = wires_of 0 targets } ≡ now → IsCircuit (circuit table now)
view-IsCircuit table law elements targets sources now wired is =
    subst (λ n. IsCircuit (circuit table n)) is (wired-IsCircuit (map table elements) targets sources
    (tables-reversible table law elements) wired)

-- an element that has a line is there
pub input-within : (tables : List Table) (e l : ℕ) → l < inputs_of tables e → e < length tables
input-within [] e l h = absurd (omega arith)
input-within (t ∷ tables) zero l h = omega arith
input-within (t ∷ tables) (suc e) l h = let rest = input-within tables e l h in omega arith

pub output-within : (tables : List Table) (e l : ℕ) → l < outputs_of tables e → e < length tables
output-within [] e l h = absurd (omega arith)
output-within (t ∷ tables) zero l h = omega arith
output-within (t ∷ tables) (suc e) l h = let rest = output-within tables e l h in omega arith
