-- The names after a call that was to name a tape's symbols and ran out of memory.
use Rattle.std.specs.Prelude.{◌≡◌, ℕ, List, ◌++◌}
use Rattle.bn_quad.specs.Names.{Naming}
use Rattle.bn_bennett.specs.Printed.{on_tape}

-- the first of the tape's symbols have the first of these names, possibly none or all of them; everything else is
-- unchanged
pub record AreNamedInPart (old new : Naming) (tape : ℕ) (names : List (List ℕ)) : Type 0 where
  pub front : List (List ℕ)
  pub rest : List (List ℕ)
  pub split : names ≡ front ++ rest
  pub named : new ≡ on_tape old tape front
