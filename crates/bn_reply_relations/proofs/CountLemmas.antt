-- The elements of a board are counted by its machine and limits alone; a property is counted once.
use Rattle.std.specs.Prelude.{◌≡◌, ℕ, ◌+◌, ◌*◌, Bool, true, false, List, [], ◌∷◌, ◌++◌, length, replicate, refl}
use Rattle.std.proofs.Common.{zero, suc, arith, suc-mul, zero-mul, inl, inr, sym, ap, subst, ◌∙◌}
use Rattle.bn_element.specs.Tables.{Table}
use Rattle.bn_circuits.specs.Counting.{one_if}
use Rattle.bn_machine.specs.Machine.{Program}
use Rattle.bn_machine.specs.Outcome.{Limits}
use Rattle.bn_quad.specs.Quadruples.{Quadruples}
use Rattle.bn_bennett.specs.Laws.{TranslationsAreOne}
use Rattle.bn_bennett.specs.Translation.{Translation}
use Rattle.bn_network.specs.Cells.{cell_table}
use Rattle.bn_network.specs.Controls.{ControlState, IsNumbering, IsControlTable, symbol_count, control_lines}
use Rattle.bn_network.specs.Networks.{module_tables, elements_by, cells_in, cell_size, bank_size}
use Rattle.bn_network.specs.ControlLaws.{ControlsAreOne}
use Rattle.bn_boards.specs.Boards.{size, size_of}
use Rattle.bn_boards.specs.Flats.{Flat, IsFlatOf}
use Rattle.bn_reply_relations.specs.Counts.{Counts}
use Rattle.bn_reply_relations.specs.Windows.{CountsElements}
use Rattle.bn_reply_relations.specs.Laws.{BoardsAreCounted}

-- ---- elements

-- sizes add up
size-append : (xs ys : List Table) → size (xs ++ ys) ≡ size xs + size ys
size-append [] ys = omega arith
size-append (x ∷ xs) ys = let rest = size-append xs ys in omega (arith, rest)

more_of : (n s : ℕ) → s + n * s ≡ suc n * s
more_of n s = let e : suc n * s ≡ n * s + s = suc-mul n s in omega arith

size-replicate : (n : ℕ) (t : Table) → size (replicate n t) ≡ n * size_of t
size-replicate zero t = sym (zero-mul (size_of t))
size-replicate (suc n) t = ap (λ m. size_of t + m) (size-replicate n t) ∙ more_of n (size_of t)

four : (a b c d : ℕ) → a + (b + c + d) ≡ a + b + c + d
four a b c d = omega arith

-- the elements of control and cells
size-modules : (m : Quadruples) (l : Limits) (names : List ControlState) (t : Table) → IsControlTable m names t →
    size (module_tables m l t) ≡ elements_by m l (length names)
size-modules m l names t is =
    let one = replicate (cells_in l 1) (cell_table (symbol_count m 1)) in
    let two = replicate (cells_in l 2) (cell_table (symbol_count m 2)) in
    let three = replicate (cells_in l 3) (cell_table (symbol_count m 3)) in
    let a = cells_in l 1 * cell_size (symbol_count m 1) in
    let b = cells_in l 2 * cell_size (symbol_count m 2) in
    let c = cells_in l 3 * cell_size (symbol_count m 3) in
    let cells : size (one ++ two ++ three) ≡ a + b + c = size-append (one ++ two) three
    ∙ ap (λ n. n + size three) (size-append one two)
    ∙ (λ i. size-replicate (cells_in l 1) (cell_table (symbol_count m 1)) i
    + size-replicate (cells_in l 2) (cell_table (symbol_count m 2)) i
    + size-replicate (cells_in l 3) (cell_table (symbol_count m 3)) i) in
    let control : size_of t ≡ bank_size (length names) (control_lines m) = λ i. is.states i * (is.inputs i + 1) in
    (λ i. control i + cells i) ∙ four (bank_size (length names) (control_lines m)) a b c

-- two counts agree, and a board has as many
pub boards-counted : TranslationsAreOne → ControlsAreOne → BoardsAreCounted
boards-counted translations controls = (one_count, of_board)
  where
    one_count : (p : Program) (l : Limits) (a b : ℕ) → CountsElements p l a → CountsElements p l b → a ≡ b
    one_count p l a b h k =
        let same : k.translation ≡ h.translation = translations p k.translation h.translation k.translates h.translates
        in
        let numbering : IsNumbering h.translation.machine k.names =
        subst (λ (t : Translation). IsNumbering t.machine k.names) same k.numbering in
        let names : h.names ≡ k.names = controls.0 h.translation.machine h.names k.names h.numbering numbering in
        h.is ∙ (λ i. elements_by (sym same i).machine l (length (names i))) ∙ sym k.is

    of_board : (p : Program) (symbols : List ℕ) (l : Limits) (f : Flat) → IsFlatOf p symbols l f
        → CountsElements p l (size f.network.tables)
    of_board p symbols l f flat = record {
      translation = f.translation;
      names = f.names;
      translates = flat.translation;
      numbering = flat.numbering;
      is = ap size flat.is_network.tables ∙ size-modules f.translation.machine l f.names flat.is_network.control
          flat.is_network.is_control;
    }

-- ---- a property of numbers

module _ (holds : ℕ → Type 0) where
  -- one count
  pub counts_once : (n a b : ℕ) → Counts holds n a → Counts holds n b → a ≡ b
  counts_once zero a b h k = h ∙ sym k
  counts_once (suc n) zero zero h k = refl
  counts_once (suc n) zero (suc b) h (inl k) = absurd (h.0 k.0)
  counts_once (suc n) zero (suc b) h (inr k) = counts_once n zero (suc b) h.1 k.1
  counts_once (suc n) (suc a) zero (inl h) k = absurd (k.0 h.0)
  counts_once (suc n) (suc a) zero (inr h) k = counts_once n (suc a) zero h.1 k.1
  counts_once (suc n) (suc a) (suc b) (inl h) (inl k) = ap suc (counts_once n a b h.1 k.1)
  counts_once (suc n) (suc a) (suc b) (inl h) (inr k) = absurd (k.0 h.0)
  counts_once (suc n) (suc a) (suc b) (inr h) (inl k) = absurd (h.0 k.0)
  counts_once (suc n) (suc a) (suc b) (inr h) (inr k) = counts_once n (suc a) (suc b) h.1 k.1

  -- one number more, by a test of it
  pub counts_more : (n a c : ℕ) (b : Bool) → (b ≡ true → holds n) → (b ≡ false → holds n → ⊥) → c ≡ a + one_if b
      → Counts holds n a → Counts holds (suc n) c
  counts_more n a zero true here other same so_far = absurd (omega arith)
  counts_more n a (suc c) true here other same so_far = let is : a ≡ c =
      omega arith in inl (here refl, subst (Counts holds n) is so_far)
  counts_more n a zero false here other same so_far = let is : a ≡ 0 =
      omega arith in (other refl, subst (Counts holds n) is so_far)
  counts_more n a (suc c) false here other same so_far = let is : a ≡ suc c =
      omega arith in inr (other refl, subst (Counts holds n) is so_far)
