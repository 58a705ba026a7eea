-- The cells that are shown of a tape without ends: from the first to the last that is not blank or has the head (this
-- project's own definition).
use Rattle.std.specs.Prelude.{◌≡◌, ◌≢◌, ℕ, zero, suc, ◌⊎◌, ℤ, pos, ◌+ℤ◌, ◌≤ℤ◌, List, [], ◌∷◌}
use Rattle.bn_machine.specs.Tape.{Tape, cell}

-- the position has a letter or the head
abbrev pub IsMarked : Tape → ℤ → Type 0
IsMarked t p = (cell t p ≢ 0) ⊎ (p ≡ t.head)

-- the first position that has a letter or the head, and the last
pub record IsFirst (t : Tape) (p : ℤ) : Type 0 where
  pub stands : IsMarked t p
  pub least : (q : ℤ) → IsMarked t q → p ≤ℤ q

pub record IsLast (t : Tape) (p : ℤ) : Type 0 where
  pub stands : IsMarked t p
  pub greatest : (q : ℤ) → IsMarked t q → q ≤ℤ p

-- the symbols of this many cells from a position on, where each position has a symbol
abbrev pub symbols_from : (ℤ → ℕ) → ℤ → ℕ → List ℕ
symbols_from symbol p zero = []
symbols_from symbol p (suc k) = symbol p ∷ symbols_from symbol (p +ℤ pos 1) k
