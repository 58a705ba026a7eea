-- The derived comparison of names says whether two are one.
use Rattle.std.proofs.Common.{◌≡◌, refl, List, [], ◌∷◌, ◌||◌}
use Rattle.std.specs.List.{list_any}
use Rattle.bn_bennett_laws.specs.contracts.name.NamePartialEq.TheImpl.{eq-value}
use Rattle.bn_bennett_laws.specs.declared.name.Name.{Name}
use Rattle.bn_bennett_laws.specs.declared.name.Name.TheVariants.{Compute, ComputeWithin, GoRight, CopyLetter, GoLeft}
use Rattle.bn_bennett_laws.specs.declared.name.Name.TheVariants.{PassLetter, Retrace, RetraceWithin}
use Rattle.bn_bennett.specs.Translation.{is_same}

derived_same : (a b : Name) → eq-value.it a b ≡ is_same a b
derived_same (Compute i) (Compute j) = refl
derived_same (ComputeWithin m) (ComputeWithin n) = refl
derived_same GoRight GoRight = refl
derived_same CopyLetter CopyLetter = refl
derived_same GoLeft GoLeft = refl
derived_same PassLetter PassLetter = refl
derived_same (Retrace i) (Retrace j) = refl
derived_same (RetraceWithin m) (RetraceWithin n) = refl
derived_same a b = refl

-- so a name is among others by the one exactly where it is by the other
pub any_same : (name : Name) (names : List Name) → list_any (eq-value.it name) names ≡ list_any (is_same name) names
any_same name [] = refl
any_same name (other ∷ names) = λ i. derived_same name other i || any_same name names i
