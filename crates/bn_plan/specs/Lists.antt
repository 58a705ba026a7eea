-- A relation on lists.
use Rattle.std.specs.Prelude.{List, [], ◌∷◌, ⊤}
use Rattle.bn_lists.specs.Lists.{Has}

-- every element has this relation to all elements after it
abbrev pub Pairwise : {X : Type 0} → (X → X → Type 0) → List X → Type 0
Pairwise R [] = ⊤
Pairwise {X} R (x ∷ xs) = ((y : X) → Has xs y → R x y) × Pairwise R xs
