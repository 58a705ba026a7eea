-- The test of names decides whether two are one.
use Rattle.std.proofs.Common.{◌≡◌, refl, ap}
use Rattle.std.specs.Bool.{Decides}
use Rattle.std.proofs.lemmas.Bool.{false≢true}
use Rattle.std.proofs.lemmas.Bool.Decides.{Decides-eqb}
use Rattle.bn_bennett_laws.specs.declared.name.Name.{Name}
use Rattle.bn_bennett_laws.specs.declared.name.Name.TheVariants.{Compute, ComputeWithin, GoRight, CopyLetter, GoLeft}
use Rattle.bn_bennett_laws.specs.declared.name.Name.TheVariants.{PassLetter, Retrace, RetraceWithin}
use Rattle.bn_bennett.specs.Translation.{is_same}

pub is_same-Decides : (a b : Name) → Decides (is_same a b) (a ≡ b)
is_same-Decides (Compute i) (Compute j) = (λ e. ap Compute ((Decides-eqb i j).0 e), λ e. (Decides-eqb i j).1 (cc))
is_same-Decides (ComputeWithin m) (ComputeWithin n) = (
  λ e. ap ComputeWithin ((Decides-eqb m n).0 e),
  λ e. (Decides-eqb m n).1 (cc),
)
is_same-Decides GoRight GoRight = (λ e. refl, λ e. refl)
is_same-Decides CopyLetter CopyLetter = (λ e. refl, λ e. refl)
is_same-Decides GoLeft GoLeft = (λ e. refl, λ e. refl)
is_same-Decides PassLetter PassLetter = (λ e. refl, λ e. refl)
is_same-Decides (Retrace i) (Retrace j) = (λ e. ap Retrace ((Decides-eqb i j).0 e), λ e. (Decides-eqb i j).1 (cc))
is_same-Decides (RetraceWithin m) (RetraceWithin n) = (
  λ e. ap RetraceWithin ((Decides-eqb m n).0 e),
  λ e. (Decides-eqb m n).1 (cc),
)
is_same-Decides a b = (λ e. absurd (false≢true e), λ e. absurd (cc))
