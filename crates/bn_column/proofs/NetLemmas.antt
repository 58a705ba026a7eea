-- Runs of a counted number of steps.
use Rattle.std.specs.Prelude.{◌≡◌, ℕ}
use Rattle.std.proofs.Common.{arith, ap, ◌∙◌}
use Rattle.bn_lists.specs.Runs.{Reaches}
use Rattle.bn_circuits.specs.Circuits.{Circuit, Goes}
use Rattle.bn_circuits.specs.Stepping.{run}
use Rattle.bn_circuits.proofs.RunLemmas.{Reaches-run}
use Rattle.bn_circuits.specs.declared.config.Config.{Config}
use Rattle.bn_column.proofs.CrossingLemmas.{Reaches-steps}

-- A net that was let run for n steps, where exactly n steps lead to an end, is at that end after n steps.
pub ran : (k : Circuit) (c d end : Config) (n made : ℕ) → Reaches (Goes k) n c d → end ≡ run k c n
    → Reaches (Goes k) made c end → (end ≡ d) × (made ≡ n)
ran k c d end n made path is counted =
    let same : end ≡ d = is ∙ Reaches-run k n c d path in
    let steps : end.steps ≡ d.steps = ap (λ (v : Config). v.steps) same in
    let by_path = Reaches-steps k n c d path in
    let by_count = Reaches-steps k made c end counted in
    (same, omega arith)
