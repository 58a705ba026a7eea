-- The bytes that a source has left and that a sink has taken, as lists if they are known. `None` means that they are
-- not known, and then nothing is claimed.
use Rattle.std.specs.Prelude.{◌≡◌, ℕ, ◌+◌, ◌<◌, ◌≤◌, List, ◌++◌, length, Option, Some, None, ⊤}

-- the source gave `piece`, the first of the bytes that it had left, and the bytes left are still known
abbrev pub Loses : Option (List ℕ) → Option (List ℕ) → List ℕ → Type 0
Loses None new piece = ⊤
Loses (Some xs) None piece = ⊥
Loses (Some xs) (Some ys) piece = xs ≡ piece ++ ys

-- the sink took `text` after all bytes taken before, and its bytes are still known; if they were not known before,
-- nothing is claimed
abbrev pub Grows : Option (List ℕ) → Option (List ℕ) → List ℕ → Type 0
Grows None new text = ⊤
Grows (Some xs) new text = new ≡ Some (xs ++ text)

-- the sink took some prefix of `text`, which may be empty or all of it
abbrev pub GrowsByFront : Option (List ℕ) → Option (List ℕ) → List ℕ → Type 0
GrowsByFront old new text = (front : List ℕ) × (rest : List ℕ) × (text ≡ front ++ rest) × Grows old new front

-- A read within a limit took `piece`, which is at most one byte longer than the limit, and longer than the limit
-- exactly if the read was refused as too long.
pub record ReadsWithin (old new : Option (List ℕ)) (limit : ℕ) (too_long : Type 0) (piece : List ℕ) : Type 0 where
  pub lost : Loses old new piece
  pub bound : length piece ≤ limit + 1
  pub refused : limit < length piece → too_long
  pub longer : too_long → limit < length piece
