-- The states that occur, and where a shift is no state's first command.
use Rattle.std.specs.Prelude.{◌≡◌, ℕ, List, [], ◌∷◌, ◌++◌, Some, refl}
use Rattle.std.proofs.Common.{arith, ap}
use Rattle.bn_lists.specs.Lists.{nth}
use Rattle.bn_machine.specs.declared.quint.Shift.TheVariants as way
use Rattle.bn_machine.specs.declared.quint.Side.{Side}
use Rattle.bn_machine.specs.declared.quint.Side.TheVariants as side
use Rattle.bn_quad.specs.Quadruples.{Rule, deeds_of, Quadruples}
use Rattle.bn_network.specs.Controls.{ControlMove, Shifts, IsEntry, finishes, leaves, waits, IsFirstOf, Occurs, is_end}
use Rattle.bn_network.specs.Controls.{is_open, is_read, is_shift, is_write, reads_of, shifts_of, writes_of, to_reads}
use Rattle.bn_network.specs.Controls.{to_shifts, to_writes}
use Rattle.bn_network.proofs.OrderLemmas.{IsMiddle, ascending, first_shift}

-- what is commanded occurs
module _ (m : Quadruples) (n : ℕ) (r : Rule ℕ) (stands : nth m.rules n ≡ Some r) (e : ControlMove)
    (there : Occurs m e.0) where
  -- what is next among the writes
  pub occurs_writes : (rest before : List (ℕ × ℕ)) → writes_of r ≡ before ++ rest → Occurs m (to_writes e r.to rest).0
  occurs_writes [] before eq = there
  occurs_writes (p ∷ rest) before eq = is_write n r stands before rest p eq refl

  -- what is next among the shifts
  pub occurs_shifts : (rest before : List (ℕ × Side)) → shifts_of r ≡ before ++ rest → Occurs m (to_shifts e n r rest).0
  occurs_shifts [] before eq = occurs_writes (writes_of r) [] refl
  occurs_shifts (p ∷ rest) before eq = is_shift n r stands before rest p eq refl

  -- what is next among the reads
  pub occurs_reads : (rest before : List (ℕ × ℕ)) → reads_of r ≡ before ++ rest
      → Occurs m (to_reads e n r before rest).0
  occurs_reads [] before eq = occurs_shifts (shifts_of r) [] refl
  occurs_reads (p ∷ rest) before eq = is_read n r stands before rest p eq refl

-- a state's first command waits in a state that occurs
pub occurs_entry : (m : Quadruples) (a : ℕ) (k : ControlMove) → IsEntry m a k → Occurs m k.0
occurs_entry m a k (finishes final is) = is_end (ap (λ (x : ControlMove). x.0) is)
occurs_entry m a k (waits other low none is) = is_open a low other none (ap (λ (x : ControlMove). x.0) is)
occurs_entry m a k (leaves n r stands from first) = go (reads_of r) (shifts_of r) refl refl first
  where
    go : (rs : List (ℕ × ℕ)) (ss : List (ℕ × Side)) → reads_of r ≡ rs → shifts_of r ≡ ss → IsFirstOf n r rs ss k
        → Occurs m k.0
    go [] [] er es h = absurd h
    go [] (s ∷ ss) er es h = is_shift n r stands [] ss s es (ap (λ (x : ControlMove). x.0) h)
    go (p ∷ rs) ss er es h = is_read n r stands [] rs p er (ap (λ (x : ControlMove). x.0) h)

module _ (m : Quadruples) where
  -- a shift after another is no state's first
  pub no_shift : (n : ℕ) (r : Rule ℕ) (before rest : List (ℕ × Side)) (p q : ℕ × Side) → nth m.rules n ≡ Some r
      → shifts_of r ≡ (before ++ (p ∷ [])) ++ (q ∷ rest) → IsMiddle m (Shifts n q.0)
  no_shift n r before rest p q stands split a k is h = let first =
      (first_shift m n r q.0 stands a k is h).1 in later before p q first.0 rest first.1 split first.2 first.3
    where
      later : (before : List (ℕ × Side)) (p r' q' : ℕ × Side) (rest tail : List (ℕ × Side))
          → shifts_of r ≡ (before ++ (p ∷ [])) ++ (r' ∷ rest)
          → shifts_of r ≡ q' ∷ tail → q'.0 ≡ r'.0 → ⊥
      later [] p r' q' rest tail one two same =
          let first : q' ≡ p = cc in
          let low = ascending (deeds_of r) 1 p r' [] rest one in
          let tape = ap (λ (v : ℕ × Side). v.0) first in
          omega arith
      later (b ∷ before) p r' q' rest tail one two same =
          let first : q' ≡ b = cc in
          let low = ascending (deeds_of r) 1 b r' (before ++ (p ∷ [])) rest one in
          let tape = ap (λ (v : ℕ × Side). v.0) first in
          omega arith
