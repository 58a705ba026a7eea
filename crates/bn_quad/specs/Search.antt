-- Searches for the least pair of quadruples that clash, and for the first quadruple with a flaw.
use Rattle.std.specs.Prelude.{ℕ, List}
use Rattle.bn_quad.specs.Quadruples.{Rule}
use Rattle.bn_quad.specs.Overlap.{IsClash}
use Rattle.bn_quad.specs.declared.clash.Clash.{Clash}
use Rattle.bn_lists.specs.Lists.{IsLeast}

-- quadruple i clashes with no later one
pub record HasNoPartner (clash : Clash) (rs : List (Rule ℕ)) (i : ℕ) : Type 0 where
  pub none : (j : ℕ) → IsClash clash rs i j → ⊥

-- quadruple j is the first later one with which quadruple i clashes
abbrev pub IsLeastPartner : Clash → List (Rule ℕ) → ℕ → ℕ → Type 0
IsLeastPartner clash rs i = IsLeast (IsClash clash rs i)
