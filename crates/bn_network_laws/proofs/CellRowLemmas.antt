-- Where the tables of a network stand, and the places of its cells.
use Rattle.std.specs.Prelude.{◌≡◌, ℕ, zero, suc, ◌+◌, ◌<◌, ◌≤◌, List, [], ◌∷◌, ◌++◌, length, replicate, Some, slice_get}
use Rattle.std.specs.Prelude.{refl, ◌⊎◌}
use Rattle.std.proofs.Common.{arith, ap, ◌∙◌, inl, inr, length-append}
use Rattle.std.proofs.lemmas.List.{length-replicate}
use Rattle.bn_element.specs.Tables.{Table}
use Rattle.bn_machine.specs.Outcome.{Limits}
use Rattle.bn_quad.specs.Quadruples.{Quadruples}
use Rattle.bn_network.specs.Cells.{cell_table}
use Rattle.bn_network.specs.Controls.{symbol_count}
use Rattle.bn_network.specs.Networks.{IsTape, cells_in, first_cell, module_tables}
use Rattle.bn_network.proofs.NumberLemmas.{by_order}

-- ---- lists

-- an element of the first part
front : {X : Type 0} (xs ys : List X) (i : ℕ) (x : X) → slice_get xs i ≡ Some x → slice_get (xs ++ ys) i ≡ Some x
front [] ys i x h = absurd (cc)
front (y ∷ xs) ys zero x h = h
front (y ∷ xs) ys (suc i) x h = front xs ys i x h

-- an element of the second part
behind : {X : Type 0} (xs ys : List X) (i j : ℕ) → i ≡ length xs + j → slice_get (xs ++ ys) i ≡ slice_get ys j
behind [] ys i j e = let same : i ≡ j = omega arith in ap (slice_get ys) same
behind (y ∷ xs) ys zero j e = absurd (omega arith)
behind (y ∷ xs) ys (suc i) j e = behind xs ys i j (omega arith)

-- an element is of one of the parts
of_two : {X : Type 0} (xs ys : List X) (i : ℕ) (x : X) → slice_get (xs ++ ys) i ≡ Some x
    → (slice_get xs i ≡ Some x) ⊎ ((j : ℕ) × (slice_get ys j ≡ Some x))
of_two [] ys i x h = inr (i, h)
of_two (y ∷ xs) ys zero x h = inl h
of_two (y ∷ xs) ys (suc i) x h = of_two xs ys i x h

-- the elements of a row are one
row : {X : Type 0} (n : ℕ) (x : X) (i : ℕ) → i < n → slice_get (replicate n x) i ≡ Some x
row zero x i h = absurd (omega arith)
row (suc n) x zero h = refl
row (suc n) x (suc i) h = row n x i (omega arith)

row_only : {X : Type 0} (n : ℕ) (x y : X) (i : ℕ) → slice_get (replicate n x) i ≡ Some y → y ≡ x
row_only zero x y i h = absurd (cc)
row_only (suc n) x y zero h = cc
row_only (suc n) x y (suc i) h = row_only n x y i h

-- one, and three rows behind it
abbrev rows : {X : Type 0} → X → X → X → X → ℕ → ℕ → ℕ → List X
rows c x y z a b d = c ∷ replicate a x ++ replicate b y ++ replicate d z

in_first : {X : Type 0} (c x y z : X) (a b d i p : ℕ) → p < a → i ≡ 1 + p → slice_get (rows c x y z a b d) i ≡ Some x
in_first c x y z a b d zero p low e = absurd (omega arith)
in_first c x y z a b d (suc i) p low e =
    let at : slice_get (replicate a x) i ≡ Some x = row a x i (omega arith) in
    front (replicate a x ++ replicate b y) (replicate d z) i x (front (replicate a x) (replicate b y) i x at)

in_second : {X : Type 0} (c x y z : X) (a b d i p : ℕ) → p < b → i ≡ 1 + a + p
    → slice_get (rows c x y z a b d) i ≡ Some y
in_second c x y z a b d zero p low e = absurd (omega arith)
in_second c x y z a b d (suc i) p low e =
    let few = length-replicate a x in
    front (replicate a x ++ replicate b y) (replicate d z) i y
    (behind (replicate a x) (replicate b y) i p (omega arith) ∙ row b y p low)

in_third : {X : Type 0} (c x y z : X) (a b d i p : ℕ) → p < d → i ≡ 1 + a + b + p
    → slice_get (rows c x y z a b d) i ≡ Some z
in_third c x y z a b d zero p low e = absurd (omega arith)
in_third c x y z a b d (suc i) p low e =
    let few = length-replicate a x in
    let more = length-replicate b y in
    let both = length-append (replicate a x) (replicate b y) in
    behind (replicate a x ++ replicate b y) (replicate d z) i p (omega arith) ∙ row d z p low

-- ---- tapes

-- what holds of each of three tapes
pub by_tape : (P : ℕ → Type 0) → P 1 → P 2 → P 3 → (t : ℕ) → IsTape t → P t
by_tape P a b c zero h = absurd (let low = h.low in omega arith)
by_tape P a b c (suc zero) h = a
by_tape P a b c (suc (suc zero)) h = b
by_tape P a b c (suc (suc (suc zero))) h = c
by_tape P a b c (suc (suc (suc (suc t)))) h = absurd (let high = h.high in omega arith)

-- a tape has a cell
pub cells_some : (l : Limits) (t : ℕ) → IsTape t → 0 < cells_in l t
cells_some l = by_tape (λ t. 0 < cells_in l t) (omega arith) (omega arith) (omega arith)

-- its cells are behind the control
pub cells_later : (l : Limits) (t : ℕ) → IsTape t → 0 < first_cell l t
cells_later l = by_tape (λ t. 0 < first_cell l t) (omega arith) (omega arith) (omega arith)

-- the cells of a later tape are behind those of an earlier one
tapes_rise : (l : Limits) (t : ℕ) → IsTape t → (u : ℕ) → IsTape u → t < u
    → first_cell l t + cells_in l t ≤ first_cell l u
tapes_rise l =
    by_tape (λ t. (u : ℕ) → IsTape u → t < u → first_cell l t + cells_in l t ≤ first_cell l u)
    (by_tape (λ u. 1 < u → first_cell l 1 + cells_in l 1 ≤ first_cell l u) (λ h. absurd (omega arith))
    (λ h. omega arith) (λ h. omega arith))
    (by_tape (λ u. 2 < u → first_cell l 2 + cells_in l 2 ≤ first_cell l u) (λ h. absurd (omega arith))
    (λ h. absurd (omega arith)) (λ h. omega arith))
    (by_tape (λ u. 3 < u
    → first_cell l 3 + cells_in l 3 ≤ first_cell l u) (λ h. absurd (omega arith)) (λ h. absurd (omega arith))
    (λ h. absurd (omega arith)))

-- a module is a cell of one tape at one place
pub place_one : (l : Limits) (t u p q : ℕ) → IsTape t → IsTape u → p < cells_in l t → q < cells_in l u
    → first_cell l t + p ≡ first_cell l u + q → (t ≡ u)
    × (p ≡ q)
place_one l t u p q a b low small e =
    elim (by_order t u) [
      | inl less ↦ absurd (let rise = tapes_rise l t a u b less in omega arith)
      | inr rest ↦ elim rest [
        | inl more ↦ absurd (let rise = tapes_rise l u b t a more in omega arith)
        | inr same ↦ (same, (let first = ap (first_cell l) same in omega arith))
      ]
    ]

-- ---- tables

-- a cell's table stands at its place
pub cell_at : (m : Quadruples) (l : Limits) (control : Table) (t : ℕ) → IsTape t → (p : ℕ) → p < cells_in l t
    → slice_get (module_tables m l control) (first_cell l t + p) ≡ Some (cell_table (symbol_count m t))
cell_at m l control =
    by_tape (λ t. (p : ℕ) → p < cells_in l t → slice_get (module_tables m l control) (first_cell l t + p)
    ≡ Some (cell_table (symbol_count m t)))
    (λ p h. in_first control (cell_table (symbol_count m 1)) (cell_table (symbol_count m 2))
    (cell_table (symbol_count m 3)) (cells_in l 1) (cells_in l 2) (cells_in l 3) (first_cell l 1 + p) p h
    (omega arith))
    (λ p h. in_second control (cell_table (symbol_count m 1)) (cell_table (symbol_count m 2))
    (cell_table (symbol_count m 3)) (cells_in l 1) (cells_in l 2) (cells_in l 3) (first_cell l 2 + p) p h
    (omega arith))
    (λ p h. in_third control (cell_table (symbol_count m 1)) (cell_table (symbol_count m 2))
    (cell_table (symbol_count m 3)) (cells_in l 1) (cells_in l 2) (cells_in l 3) (first_cell l 3 + p) p h
    (omega arith))

-- a table is the control's or a cell's
pub tables_only : (m : Quadruples) (l : Limits) (control : Table) (e : ℕ) (t : Table)
    → slice_get (module_tables m l control) e ≡ Some t
    → (t ≡ control) ⊎ ((u : ℕ) × IsTape u × (t ≡ cell_table (symbol_count m u)))
tables_only m l control zero t h = inl cc
tables_only m l control (suc e) t h = two (of_two (first ++ second) third e t h)
  where
    first : List Table
    first = replicate (cells_in l 1) (cell_table (symbol_count m 1))

    second : List Table
    second = replicate (cells_in l 2) (cell_table (symbol_count m 2))

    third : List Table
    third = replicate (cells_in l 3) (cell_table (symbol_count m 3))

    IsCells : Type 0
    IsCells = (t ≡ control) ⊎ ((u : ℕ) × IsTape u × (t ≡ cell_table (symbol_count m u)))

    one : (slice_get first e ≡ Some t) ⊎ ((j : ℕ) × (slice_get second j ≡ Some t)) → IsCells
    one (inl a) = inr (
      1,
      record { low = omega arith; high = omega arith },
      row_only (cells_in l 1) (cell_table (symbol_count m 1)) t e a,
    )
    one (inr b) = inr (
      2,
      record { low = omega arith; high = omega arith },
      row_only (cells_in l 2) (cell_table (symbol_count m 2)) t b.0 b.1,
    )

    two : (slice_get (first ++ second) e ≡ Some t) ⊎ ((j : ℕ) × (slice_get third j ≡ Some t)) → IsCells
    two (inl a) = one (of_two first second e t a)
    two (inr b) = inr (
      3,
      record { low = omega arith; high = omega arith },
      row_only (cells_in l 3) (cell_table (symbol_count m 3)) t b.0 b.1,
    )
