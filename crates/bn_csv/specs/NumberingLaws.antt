-- Laws of numbering by first appearance.
use Rattle.std.proofs.Common.{◌≡◌, ◌∷◌, Bool, false, List, []}
use Rattle.std.specs.Prelude.{⊤}
use Rattle.std.specs.Bool.{Decides}
use Rattle.std.specs.List.{list_any}

module _ {X : Type 0} (same : X → X → Bool) (decides : (a b : X) → Decides (same a b) (a ≡ b)) where
  -- no element is the same as one after it
  abbrev pub AreApart : List X → Type 0
  AreApart [] = ⊤
  AreApart (x ∷ xs) = (list_any (same x) xs ≡ false) × AreApart xs
