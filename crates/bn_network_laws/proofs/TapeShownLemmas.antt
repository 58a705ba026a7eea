-- The cells that show a tape, as a row with a head.
use Rattle.std.specs.Prelude.{◌≡◌, ◌≢◌, ◌==◌, ◌⊎◌, ℕ, ◌+◌, ◌<◌, ℤ, pos, ◌-ℤ◌, Bool, true, false, List, Some, slice_get}
use Rattle.std.specs.Prelude.{slice_set, refl}
use Rattle.std.specs.Ordering.{int_eq}
use Rattle.std.proofs.Common.{arith, sym, ap, subst, ◌∙◌, inl, inr, true≢false}
use Rattle.std.proofs.lemmas.Int.{ints}
use Rattle.std.proofs.lemmas.Bool.Decides.{Decides-int_eq, eqb_tells}
use Rattle.std.proofs.lemmas.Option.{slice_get_within}
use Rattle.bn_circuits.proofs.StepLemmas.{slice_get-set_same, slice_get-set_other}
use Rattle.bn_machine.specs.Tape.{Tape, cell, moved, scanned, shift, write}
use Rattle.bn_machine.specs.declared.quint.Shift.{Shift}
use Rattle.bn_machine.proofs.TapeLemmas.{scanned-write, cell-write_beside}
use Rattle.bn_machine.specs.Window.{IsBetween}
use Rattle.bn_network.specs.Cells.{Plain, Head, state_number}
use Rattle.bn_network.specs.Networks.{ShowsCells, ShowsTape, cell_of}
use Rattle.bn_network.specs.Moments.{head_cell}
use Rattle.bn_network_laws.proofs.RowLemmas.{Holds}

-- the symbol in the cell numbered j
abbrev pub symbol_in : ℕ → Tape → ℕ → ℕ
symbol_in left t j = cell t (pos j -ℤ pos left)

-- the head's position is its cell's
pub head_place : (left right : ℕ) (t : Tape) → IsBetween left right t.head → t.head ≡ pos (head_cell left t) -ℤ pos left
head_place left right t between = let above = between.above in omega (arith, ints)

-- the head's cell is in the row
pub head_within : (left right n : ℕ) (t : Tape) → n ≡ left + right + 1 → IsBetween left right t.head
    → head_cell left t < n
head_within left right n t count between = let above = between.above in let below = between.below in omega (arith, ints)

-- the symbol under the head is the one in its cell
pub scanned_in : (left right : ℕ) (t : Tape) → IsBetween left right t.head
    → symbol_in left t (head_cell left t) ≡ scanned t
scanned_in left right t between = ap (λ p. cell t p) (sym (head_place left right t between))

-- a symbol written under the head stands in its cell
pub written_here : (left right : ℕ) (t : Tape) (u : ℕ) → IsBetween left right t.head
    → symbol_in left (write t u) (head_cell left t) ≡ u
written_here left right t u between = ap (λ p. cell (write t u) p) (sym (head_place left right t between))
    ∙ scanned-write t u

-- a symbol written under the head leaves the other cells
pub written_beside : (left right : ℕ) (t : Tape) (u p : ℕ) → IsBetween left right t.head → p ≢ head_cell left t
    → symbol_in left (write t u) p ≡ symbol_in left t p
written_beside left right t u p between ne = cell-write_beside t u (pos p -ℤ pos left) (λ e. ne (omega (arith, ints)))

-- the state of the head's cell
with_head : (t : Tape) (p : ℤ) → p ≡ t.head → cell_of t p ≡ Head (cell t p)
with_head t p same = rw ((Decides-int_eq p t.head).1 same) refl

-- the state of another cell
without_head : (t : Tape) (p : ℤ) → p ≢ t.head → cell_of t p ≡ Plain (cell t p)
without_head t p apart = by_test (int_eq p t.head) refl
  where
    by_test : (b : Bool) → int_eq p t.head ≡ b → cell_of t p ≡ Plain (cell t p)
    by_test true is = absurd (apart ((Decides-int_eq p t.head).0 is))
    by_test false is = rw is refl

module _ (b z left right n : ℕ) (count : n ≡ left + right + 1) where
  -- cells that show a tape hold its symbols and its head
  pub shows-holds : (states : List ℕ) (t : Tape) → ShowsTape states b z left right t
      → Holds states b n z (head_cell left t) (symbol_in left t)
  shows-holds states t shows =
      let h = head_cell left t in
      let place = head_place left right t shows.head in
      let within = head_within left right n t count shows.head in
      record {
        head = within;
        small = λ p lt. shows.shown.symbols (pos p -ℤ pos left);
        plain = λ p lt ne. shows.shown.cells p (omega arith) ∙ ap (λ q. Some (state_number z q))
            (without_head t (pos p -ℤ pos left) (λ e. ne (omega (arith, ints))));
        headed = shows.shown.cells h (omega arith) ∙ ap (λ q. Some (state_number z q))
            (with_head t (pos h -ℤ pos left) (sym place));
      }

  -- and the other way round
  pub holds-shows : (states : List ℕ) (t : Tape) (h : ℕ) → t.head ≡ pos h -ℤ pos left
      → Holds states b n z h (symbol_in left t)
      → ((p : ℤ) → cell t p ≢ 0 → IsBetween left right p) → ((p : ℤ) → cell t p < z) → ShowsTape states b z left right t
  holds-shows states t h place holds inside symbols =
      let within = holds.head in
      record {
        head = record { above = omega (arith, ints); below = omega (arith, ints) };
        shown = record { inside = inside; symbols = symbols; cells = λ j lt. by_cell j (omega arith) (eqb_tells j h) };
      }
    where
      by_cell : (j : ℕ) → j < n → ((j == h) ≡ true) × (j ≡ h) ⊎ ((j == h) ≡ false) × (j ≢ h)
          → slice_get states (b + j) ≡ Some (state_number z (cell_of t (pos j -ℤ pos left)))
      by_cell j lt (inl same) =
          let at : pos j -ℤ pos left ≡ t.head = ap (λ x. pos x -ℤ pos left) same.1 ∙ sym place in
          ap (λ x. slice_get states (b + x)) same.1 ∙ holds.headed
          ∙ ap (λ x. Some (z + symbol_in left t x)) (sym same.1)
          ∙ ap (λ q. Some (state_number z q)) (sym (with_head t (pos j -ℤ pos left) at))
      by_cell j lt (inr other) =
          let apart : (pos j -ℤ pos left) ≢ t.head = λ e. other.1 (omega (arith, ints)) in
          holds.plain j lt other.1 ∙ ap (λ q. Some (state_number z q)) (sym (without_head t (pos j -ℤ pos left) apart))

  -- cells from which the head was taken show the shifted tape, where its head is in none of them
  pub left-shows : (states : List ℕ) (t : Tape) (way : Shift) → ShowsTape states b z left right t
      → ((j : ℕ) → j < n → pos j -ℤ pos left ≢ moved t.head way)
      → ShowsCells (slice_set states (b + head_cell left t) (symbol_in left t (head_cell left t))) b z left right
      (shift t way)
  left-shows states t way shows gone = record {
    inside = shows.shown.inside;
    symbols = shows.shown.symbols;
    cells = λ j lt. by_cell j (omega arith) (eqb_tells j h) ∙ ap (λ q. Some (state_number z q))
        (sym (without_head (shift t way) (pos j -ℤ pos left) (gone j (omega arith))));
  }
    where
      h : ℕ
      h = head_cell left t

      holds : Holds states b n z h (symbol_in left t)
      holds = shows-holds states t shows

      by_cell : (j : ℕ) → j < n → ((j == h) ≡ true) × (j ≡ h) ⊎ ((j == h) ≡ false) × (j ≢ h)
          → slice_get (slice_set states (b + h) (symbol_in left t h)) (b + j) ≡ Some (symbol_in left t j)
      by_cell j lt (inl same) = subst (λ x. slice_get (slice_set states (b + h) (symbol_in left t h)) (b + x)
          ≡ Some (symbol_in left t x)) (sym same.1) (slice_get-set_same states (b + h) (symbol_in left t h)
          (slice_get_within states (b + h) (z + symbol_in left t h) holds.headed))
      by_cell j lt (inr other) = slice_get-set_other states (b + h) (b + j) (symbol_in left t h)
          (λ e. other.1 (omega arith)) ∙ holds.plain j lt other.1

  -- after a symbol was written
  pub written-shows : (states new : List ℕ) (t : Tape) (u : ℕ) → ShowsTape states b z left right t → u < z
      → Holds new b n z (head_cell left t) (symbol_in left (write t u)) → ShowsTape new b z left right (write t u)
  written-shows states new t u shows small holds =
      holds-shows new (write t u) (head_cell left t) (head_place left right t shows.head) holds
      (λ p ne. inside p ne (int_eq p t.head) refl) (λ p. symbols p (int_eq p t.head) refl)
    where
      -- a position that the test tells from the head's is another
      apart : (p : ℤ) → int_eq p t.head ≡ false → p ≢ t.head
      apart p is same = true≢false (sym ((Decides-int_eq p t.head).1 same) ∙ is)

      -- no symbol stands outside the window
      inside : (p : ℤ) → cell (write t u) p ≢ 0 → (test : Bool) → int_eq p t.head ≡ test → IsBetween left right p
      inside p ne true is = subst (λ x. IsBetween left right x) (sym ((Decides-int_eq p t.head).0 is)) shows.head
      inside p ne false is = shows.shown.inside p (λ e. ne (cell-write_beside t u p (apart p is) ∙ e))

      -- each symbol is below z
      symbols : (p : ℤ) (test : Bool) → int_eq p t.head ≡ test → cell (write t u) p < z
      symbols p true is = let here : cell (write t u) p ≡ u = ap (λ x. cell (write t u) x)
          ((Decides-int_eq p t.head).0 is) ∙ scanned-write t u in omega arith
      symbols p false is = let same = cell-write_beside t u p (apart p is) in let less =
          shows.shown.symbols p in omega arith
