-- The laws of this crate that follow from those of the crates below it, each proved.
use Rattle.bn_circuits.proofs.RunLemmas.{run_composes, back_composes}
use Rattle.bn_circuits.proofs.StepLemmas.{next-Goes, Goes-next, previous-Goes, Goes-previous}
use Rattle.bn_circuits.specs.Circuits.{Circuit, Goes, IsCircuit, IsConfig}
use Rattle.bn_circuits.specs.Stepping.{next, previous, run, back}
use Rattle.bn_circuits.specs.declared.config.Config.{Config}
use Rattle.std.proofs.Common.{◌+◌, refl}
use Rattle.std.specs.Prelude.{Some, ◌≡◌, ◌↔◌, ℕ, ◌+◌}

pub steps_compute-forward : (k : Circuit) (c d : Config) → (next k c ≡ Some d) ↔ Goes k c d
steps_compute-forward = λ k c d. (next-Goes k c d, Goes-next k c d)

pub steps_compute-backward : (k : Circuit) → IsCircuit k → (c d : Config) → IsConfig k d
    → (previous k d ≡ Some c) ↔ Goes k c d
steps_compute-backward = λ k circuit c d config. (previous-Goes k circuit c d config, Goes-previous k circuit c d)

pub runs_compose-forward : (k : Circuit) (c : Config) (s t : ℕ) → run k c (s + t) ≡ run k (run k c s) t
runs_compose-forward = λ k c s t. run_composes k c s t (s + t) refl

pub runs_compose-backward : (k : Circuit) (c : Config) (s t : ℕ) → back k c (s + t) ≡ back k (back k c s) t
runs_compose-backward = λ k c s t. back_composes k c s t (s + t) refl
