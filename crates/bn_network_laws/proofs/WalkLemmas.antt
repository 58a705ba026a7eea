-- Paths of a network with what they cost, one after the other.
use Rattle.std.specs.Prelude.{◌≡◌, ℕ, ◌+◌, ◌*◌, ◌<◌, ◌≤◌, Bool, true, refl}
use Rattle.std.proofs.Common.{arith, ap, ◌∙◌}
use Rattle.bn_lists.specs.Runs.{Reaches, Passes}
use Rattle.bn_lists.proofs.RunsLemmas.{passes_run, passes_join}
use Rattle.bn_circuits.specs.Circuits.{Circuit}
use Rattle.bn_circuits.specs.declared.place.Place.TheVariants.{Left}
use Rattle.bn_circuits.specs.Situations.{Situation, Turns}
use Rattle.bn_rsm.proofs.RunCostLemmas.{cost-none, one_cost, cost-joins}
use Rattle.bn_rsm.specs.RunCosts.{run_cost, step_cost, entry_cost}

-- where the signal has left, a step more costs nothing
pub cost-left : (k : Circuit) (n e o : ℕ) (s t : Situation) → Reaches (Turns k) n s t → t.place ≡ Left e o
    → run_cost k (n + 1) s ≡ run_cost k n s
cost-left k n e o s t path is =
    let sum = cost-joins k n 1 s t path in
    let one = one_cost k t in
    let none : step_cost k t ≡ 0 = ap (entry_cost k t.states) is in
    omega arith

-- n steps from s to t, the test holds strictly between, and a step costs at most `each` on the average
pub record Walk (k : Circuit) (test : Situation → Bool) (each n : ℕ) (s t : Situation) : Type 0 where
  pub path : Passes (Turns k) test n s t
  pub cost : run_cost k n s ≤ n * each

module _ (k : Circuit) (test : Situation → Bool) (each : ℕ) where
  -- no step
  pub stays : (s : Situation) → Walk k test each 0 s s
  stays s = let none = cost-none k s in record { path = refl; cost = omega arith }

  -- one step
  pub steps : (s t : Situation) → Turns k s t → step_cost k s ≤ each → Walk k test each 1 s t
  steps s t g cheap = let one = one_cost k s in record { path = (t, g, tt, refl); cost = omega arith }

  -- one walk after the other
  pub joins : (m n p : ℕ) (x y z : Situation) → p ≡ m + n → (0 < m → 0 < n → test y ≡ true) → Walk k test each m x y
      → Walk k test each n y z
      → Walk k test each p x z
  joins m n p x y z sum middle first second =
      let whole : run_cost k p x ≡ run_cost k m x + run_cost k n y =
      ap (λ i. run_cost k i x) sum ∙ cost-joins k m n x y (passes_run (Turns k) test m x y first.path) in
      let cheap_first = first.cost in
      let cheap_second = second.cost in
      let product : p * each ≡ m * each + n * each = ap (λ i. i * each) sum ∙ omega arith in
      record {
        path = passes_join (Turns k) test p m n x y z sum middle first.path second.path;
        cost = omega arith;
      }
