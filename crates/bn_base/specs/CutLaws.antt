-- The laws on inputs of two parts, each a field of `Laws`.
use Rattle.std.specs.Prelude.{◌≡◌, ℕ, List, ◌⊎◌}
use Rattle.bn_base.specs.Cuts.{IsCut, IsUncut}

-- an input is cut in one way, or not at all
abbrev pub CutsAreOne : Type 0
CutsAreOne =
    (bytes first second front rest : List ℕ) → IsCut bytes first second → IsCut bytes front rest
    → (first ≡ front) × (second ≡ rest)

abbrev pub CutsAreNotUncut : Type 0
CutsAreNotUncut = (bytes first second : List ℕ) → IsCut bytes first second → IsUncut bytes → ⊥

-- every input is cut or uncut
abbrev pub CutsOrNot : Type 0
CutsOrNot = (bytes : List ℕ) → ((first : List ℕ) × (second : List ℕ) × IsCut bytes first second) ⊎ IsUncut bytes
