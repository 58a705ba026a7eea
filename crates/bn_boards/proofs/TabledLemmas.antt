-- The tables of a network in their order, and where their banks lie.
use Rattle.std.specs.Prelude.{◌≡◌, ℕ, ◌+◌, ◌*◌, ◌<◌, ◌≤◌, List, [], ◌∷◌, ◌++◌, length, replicate, Option, Some}
use Rattle.std.specs.Prelude.{slice_get, refl}
use Rattle.std.proofs.Common.{zero, suc, arith, sym, ap, subst, ◌∙◌}
use Rattle.std.proofs.lemmas.List.{append_assoc, append-nil}
use Rattle.bn_element.specs.Tables.{Table}
use Rattle.bn_circuits.specs.Circuits.{Circuit}
use Rattle.bn_machine.specs.Outcome.{Limits}
use Rattle.bn_quad.specs.Quadruples.{Rule, Quadruples, quadruples_of}
use Rattle.bn_network.specs.Cells.{cell_table}
use Rattle.bn_network.specs.Controls.{ControlState, symbol_count}
use Rattle.bn_network.specs.Networks.{IsNetwork, IsTape, cells_in, first_cell, bank_size, cell_size, elements_by}
use Rattle.bn_boards.specs.Boards.{base, size, size_of}
use Rattle.bn_boards.specs.Layouts.{Layout, cell_element, elements_of, lines_at}

-- ---- so many equal tables, and others behind them

-- one of the equal ones
row_get : (c i : ℕ) (x : Table) (rest : List Table) → i < c → slice_get (replicate c x ++ rest) i ≡ Some x
row_get zero i x rest low = absurd (omega arith)
row_get (suc c) zero x rest low = refl
row_get (suc c) (suc i) x rest low = row_get c i x rest (omega arith)

-- one behind them
row_skip : (c i e : ℕ) (x : Table) (rest : List Table) → e ≡ c + i
    → slice_get (replicate c x ++ rest) e ≡ slice_get rest i
row_skip zero i e x rest same = let is : e ≡ i = omega arith in ap (slice_get rest) is
row_skip (suc c) i zero x rest same = absurd (omega arith)
row_skip (suc c) i (suc e) x rest same = row_skip c i e x rest (omega arith)

-- where the bank of one of them begins
row_base : (c i : ℕ) (x : Table) (rest : List Table) → i ≤ c → base (replicate c x ++ rest) i ≡ i * size_of x
row_base c zero x rest low = omega arith
row_base zero (suc i) x rest low = absurd (omega arith)
row_base (suc c) (suc i) x rest low = let h = row_base c i x rest (omega arith) in omega arith

-- and that of one behind them
row_base_skip : (c i e : ℕ) (x : Table) (rest : List Table) → e ≡ c + i
    → base (replicate c x ++ rest) e ≡ c * size_of x + base rest i
row_base_skip zero i e x rest same = let is : e ≡ i = omega arith in let h = ap (base rest) is in omega arith
row_base_skip (suc c) i zero x rest same = absurd (omega arith)
row_base_skip (suc c) i (suc e) x rest same = let h = row_base_skip c i e x rest (omega arith) in omega arith

-- what holds of each
row_every : (P : Table → Type 0) (c : ℕ) (x : Table) (rest : List Table) → P x
    → ((i : ℕ) (v : Table) → slice_get rest i ≡ Some v → P v)
    → (i : ℕ) (v : Table) → slice_get (replicate c x ++ rest) i ≡ Some v → P v
row_every P zero x rest here there i v h = there i v h
row_every P (suc c) x rest here there zero v h = let same : x ≡ v = cc in subst P same here
row_every P (suc c) x rest here there (suc i) v h = row_every P c x rest here there i v h

-- how many elements they have
row_size : (c : ℕ) (x : Table) (rest : List Table) → size (replicate c x ++ rest) ≡ c * size_of x + size rest
row_size zero x rest = omega arith
row_size (suc c) x rest = let h = row_size c x rest in omega arith

-- behind the first one
after_first : (x : Table) (xs : List Table) (i e : ℕ) → e ≡ suc i → slice_get (x ∷ xs) e ≡ slice_get xs i
after_first x xs i e same = ap (slice_get (x ∷ xs)) same

-- and where its bank begins
base_after : (x : Table) (xs : List Table) (i e : ℕ) → e ≡ suc i → base (x ∷ xs) e ≡ size_of x + base xs i
base_after x xs i e same = ap (base (x ∷ xs)) same

-- sums of sizes
sums : (a b c d : ℕ) → a ≡ b → a + (c + d) ≡ b + c + d
sums a b c d h = omega arith

sums_more : (a b c d e : ℕ) → a ≡ b → a + (c + (d + e)) ≡ b + c + d + e
sums_more a b c d e h = omega arith

module _ (rules : List (Rule ℕ)) (states x y z : ℕ) (l : Limits) (names : List ControlState) (n : Circuit)
    (firsts awaited : List (Option (ℕ × ℕ))) where
  -- the machine, and the layout of its board
  abbrev pub machine : Quadruples
  machine = quadruples_of rules states (x ∷ y ∷ z ∷ [])

  -- the layout of its board
  abbrev pub layout : Layout
  layout = record { limits = l; symbols = x ∷ y ∷ z ∷ []; states = length names; firsts = firsts; awaited = awaited }

  -- the network's tables, with this control
  abbrev pub tables_in : Table → List Table
  tables_in u = u ∷ (replicate (cells_in l 1) (cell_table x) ++ (replicate (cells_in l 2) (cell_table y)
      ++ (replicate (cells_in l 3) (cell_table z) ++ [])))

  module _ (network : IsNetwork machine l names n) where
    -- they are in this order
    pub tables_are : n.tables ≡ tables_in network.control
    tables_are =
        let one = replicate (cells_in l 1) (cell_table x) in
        let two = replicate (cells_in l 2) (cell_table y) in
        let three = replicate (cells_in l 3) (cell_table z) in
        let nested : one ++ two ++ three ≡ one ++ (two ++ (three ++ [])) =
        append_assoc one two three ∙ ap (λ r. one ++ (two ++ r)) (sym (append-nil three)) in
        network.tables ∙ ap (λ r. network.control ∷ r) nested

    -- the control's bank has the layout's size
    pub control_size : size_of network.control ≡ bank_size (length names) (lines_at layout)
    control_size = λ i. network.is_control.states i * (network.is_control.inputs i + 1)

    -- the control comes first
    pub has_control : slice_get n.tables 0 ≡ Some network.control
    has_control = ap (λ ts. slice_get ts 0) tables_are

    -- the cell at a place of a tape
    pub has_cell : (t p : ℕ) → IsTape t → p < cells_in l t → slice_get n.tables (first_cell l t + p)
        ≡ Some (cell_table (symbol_count machine t))
    has_cell t p tape low = ap (λ ts. slice_get ts (first_cell l t + p)) tables_are ∙ by_tape t tape.low tape.high low
      where
        by_tape : (t : ℕ) → 0 < t → t ≤ 3 → p < cells_in l t
            → slice_get (tables_in network.control) (first_cell l t + p) ≡ Some (cell_table (symbol_count machine t))
        by_tape zero some last low = absurd (omega arith)
        by_tape (suc zero) some last low = after_first _ _ p (first_cell l 1 + p) (omega arith)
            ∙ row_get (cells_in l 1) p (cell_table x) _ low
        by_tape (suc (suc zero)) some last low = after_first _ _ (cells_in l 1 + p) (first_cell l 2 + p) (omega arith)
            ∙ row_skip (cells_in l 1) p (cells_in l 1 + p) (cell_table x) _ refl
            ∙ row_get (cells_in l 2) p (cell_table y) _ low
        by_tape (suc (suc (suc zero))) some last low =
            after_first _ _ (cells_in l 1 + (cells_in l 2 + p)) (first_cell l 3 + p) (omega arith)
            ∙ row_skip (cells_in l 1) (cells_in l 2 + p) (cells_in l 1 + (cells_in l 2 + p)) (cell_table x) _ refl
            ∙ row_skip (cells_in l 2) p (cells_in l 2 + p) (cell_table y) _ refl
            ∙ row_get (cells_in l 3) p (cell_table z) _ low
        by_tape (suc (suc (suc (suc t)))) some last low = absurd (omega arith)

    -- where its bank begins
    pub cell_base : (t p : ℕ) → IsTape t → p < cells_in l t → base n.tables (first_cell l t + p)
        ≡ cell_element layout t p
    cell_base t p tape low = ap (λ ts. base ts (first_cell l t + p)) tables_are ∙ by_tape t tape.low tape.high low
      where
        by_tape : (t : ℕ) → 0 < t → t ≤ 3 → p < cells_in l t → base (tables_in network.control) (first_cell l t + p)
            ≡ cell_element layout t p
        by_tape zero some last low = absurd (omega arith)
        by_tape (suc zero) some last low =
            base_after _ _ p (first_cell l 1 + p) (omega arith) ∙ (λ i. control_size i
            + row_base (cells_in l 1) p (cell_table x) (replicate (cells_in l 2) (cell_table y)
            ++ (replicate (cells_in l 3) (cell_table z) ++ [])) (omega arith) i)
        by_tape (suc (suc zero)) some last low =
            let h = base_after network.control (replicate (cells_in l 1) (cell_table x)
            ++ (replicate (cells_in l 2) (cell_table y) ++ (replicate (cells_in l 3) (cell_table z) ++ [])))
            (cells_in l 1 + p) (first_cell l 2 + p) (omega arith) in
            let one = row_base_skip (cells_in l 1) p (cells_in l 1 + p) (cell_table x)
            (replicate (cells_in l 2) (cell_table y) ++ (replicate (cells_in l 3) (cell_table z) ++ [])) refl in
            let two = row_base (cells_in l 2) p (cell_table y) (replicate (cells_in l 3) (cell_table z) ++ [])
            (omega arith) in
            let sum = sums (size_of network.control) (bank_size (length names) (lines_at layout))
            (cells_in l 1 * cell_size x) (p * cell_size y) control_size in
            h ∙ (λ i. size_of network.control + one i) ∙ (λ i. size_of network.control
            + (cells_in l 1 * cell_size x + two i)) ∙ sum
        by_tape (suc (suc (suc zero))) some last low =
            let h = base_after network.control (replicate (cells_in l 1) (cell_table x)
            ++ (replicate (cells_in l 2) (cell_table y) ++ (replicate (cells_in l 3) (cell_table z) ++ [])))
            (cells_in l 1 + (cells_in l 2 + p)) (first_cell l 3 + p) (omega arith) in
            let one = row_base_skip (cells_in l 1) (cells_in l 2 + p) (cells_in l 1 + (cells_in l 2 + p)) (cell_table x)
            (replicate (cells_in l 2) (cell_table y) ++ (replicate (cells_in l 3) (cell_table z) ++ [])) refl in
            let two = row_base_skip (cells_in l 2) p (cells_in l 2 + p) (cell_table y)
            (replicate (cells_in l 3) (cell_table z) ++ []) refl in
            let three = row_base (cells_in l 3) p (cell_table z) [] (omega arith) in
            let sum = sums_more (size_of network.control) (bank_size (length names) (lines_at layout))
            (cells_in l 1 * cell_size x) (cells_in l 2 * cell_size y) (p * cell_size z) control_size in
            h ∙ (λ i. size_of network.control + one i) ∙ (λ i. size_of network.control
            + (cells_in l 1 * cell_size x + two i)) ∙ (λ i. size_of network.control
            + (cells_in l 1 * cell_size x + (cells_in l 2 * cell_size y + three i))) ∙ sum
        by_tape (suc (suc (suc (suc t)))) some last low = absurd (omega arith)

    -- what holds of the control and of each tape's cells holds of each module
    pub every : (P : Table → Type 0) → P network.control → P (cell_table x) → P (cell_table y) → P (cell_table z)
        → (i : ℕ) (v : Table)
        → slice_get n.tables i ≡ Some v → P v
    every P control one two three i v h = by_place i (subst (λ ts. slice_get ts i ≡ Some v) tables_are h)
      where
        by_place : (i : ℕ) → slice_get (tables_in network.control) i ≡ Some v → P v
        by_place zero h = let same : network.control ≡ v = cc in subst P same control
        by_place (suc i) h = row_every P (cells_in l 1) (cell_table x) _ one
            (row_every P (cells_in l 2) (cell_table y) _ two (row_every P (cells_in l 3) (cell_table z) _ three
            (λ j u none. absurd (cc)))) i v h

    -- the number of elements
    pub whole : size n.tables ≡ elements_by machine l (length names)
    whole =
        let c = replicate (cells_in l 3) (cell_table z) ++ [] in
        let b = replicate (cells_in l 2) (cell_table y) ++ c in
        let one = row_size (cells_in l 1) (cell_table x) b in
        let two = row_size (cells_in l 2) (cell_table y) c in
        let three = row_size (cells_in l 3) (cell_table z) [] in
        ap size tables_are ∙ total (size_of network.control) (bank_size (length names) (lines_at layout))
        (size (replicate (cells_in l 1) (cell_table x) ++ b)) (size b) (size c) (cells_in l 1 * cell_size x)
        (cells_in l 2 * cell_size y) (cells_in l 3 * cell_size z) control_size one two three
      where
        total : (u v a b c d e f : ℕ) → u ≡ v → a ≡ d + b → b ≡ e + c → c ≡ f + 0 → u + a ≡ v + d + e + f
        total u v a b c d e f h one two three = omega arith

  -- by the layout
  pub counted : elements_of layout ≡ elements_by machine l (length names)
  counted = refl
