-- Paths and their costs.
use Rattle.std.specs.Prelude.{◌≡◌, ℕ, ◌+◌, ◌<◌, ◌≤◌, Bool, true, false, not, refl}
use Rattle.std.proofs.Common.{arith, ap}
use Rattle.bn_lists.proofs.RunsLemmas.{passes_run, passes_join}
use Rattle.bn_circuits.specs.Circuits.{Circuit}
use Rattle.bn_circuits.specs.Situations.{Situation, Turns}
use Rattle.bn_rsm.proofs.RunCostLemmas.{cost-none, one_cost, cost-joins}
use Rattle.bn_rsm.specs.RunCosts.{step_cost, run_cost}
use Rattle.bn_network.specs.Moments.{Travels}

-- not no is yes
pub negated : (b : Bool) → b ≡ false → not b ≡ true
negated true h = absurd (cc)
negated false h = refl

-- staying where it is
pub stays : (k : Circuit) (test : Situation → Bool) (s : Situation) (most : ℕ) → Travels k test 0 most s s
stays k test s most = record { path = refl; cost = (let none = cost-none k s in omega arith) }

-- one step
pub steps : (k : Circuit) (test : Situation → Bool) (s t : Situation) (most : ℕ) → Turns k s t → step_cost k s ≤ most
    → Travels k test 1 most s t
steps k test s t most g cost = record { path = (t, g, tt, refl); cost = (let one = one_cost k s in omega arith) }

-- two journeys in one, where the test says no between them unless one is empty
pub travels_join : (k : Circuit) (test : Situation → Bool) (p m n most a b : ℕ) (s t u : Situation) → p ≡ m + n
    → a + b ≤ most
    → (0 < m → 0 < n → test t ≡ false) → Travels k test m a s t → Travels k test n b t u → Travels k test p most s u
travels_join k test p m n most a b s t u sum room middle first second = record {
  path = passes_join (Turns k) (λ x. not (test x)) p m n s t u sum (λ some more. negated (test t) (middle some more))
      first.path second.path;
  cost = (
      let joined = cost-joins k m n s t (passes_run (Turns k) (λ x. not (test x)) m s t first.path) in
      let count : run_cost k p s ≡ run_cost k (m + n) s = ap (λ x. run_cost k x s) sum in
      let one = first.cost in
      let two = second.cost in
      omega arith);
}
