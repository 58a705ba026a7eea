-- At each step of its run a board stands for a situation of the network, or is strictly within a move.
use Rattle.std.specs.Prelude.{◌≡◌, ℕ, ◌+◌, ◌-◌, ◌<◌, ◌≤◌, Bool, true, refl, ◌⊎◌}
use Rattle.std.proofs.Common.{zero, suc, arith, sym, ap, subst, ◌∙◌, inl, inr}
use Rattle.std.proofs.lemmas.Bool.{cases_lt}
use Rattle.bn_lists.specs.Runs.{Reaches, Passes}
use Rattle.bn_lists.proofs.RunsLemmas.{passes_run}
use Rattle.bn_circuits.specs.Circuits.{Circuit, clock, Goes}
use Rattle.bn_circuits.specs.Stepping.{run}
use Rattle.bn_circuits.proofs.RunLemmas.{Reaches-run, run-zero, run_composes}
use Rattle.bn_circuits.specs.declared.config.Config.{Config}
use Rattle.bn_circuits.specs.Situations.{Situation, Turns}
use Rattle.bn_rsm.specs.RunCosts.{step_cost, run_cost}
use Rattle.bn_boards.specs.Boards.{AreModules, IsBoard, StandsFor, IsAmid}
use Rattle.bn_boards.specs.BoardLaws.{IsAtMove, BoardsVisit}
use Rattle.bn_circuits.proofs.RunPartLemmas.{paths-between}
use Rattle.bn_boards.proofs.MovedLemmas.{one-move}
use Rattle.bn_rsm.proofs.RunCostLemmas.{cost-more, cost-none}

at_start : (n k : Circuit) (s : Situation) (c : Config) (i : ℕ) → i ≡ 0 → StandsFor n s c → IsAtMove n s i (run k c i)
at_start n k s c i none stands = record {
  moves = 0;
  at = s;
  run = refl;
  sum = none ∙ sym (cost-none n s);
  stands = subst (StandsFor n s) (sym (ap (run k c) none ∙ run-zero k c)) stands;
}

module _ (n k : Circuit) (modules : AreModules n) (board : IsBoard n k) (test : Config → Bool) where
  visit : (m : ℕ) (s t : Situation) (c : Config) → StandsFor n s c → Reaches (Turns n) m s t
      → c.steps + run_cost n m s ≤ clock
      → ((i : ℕ) (x y : Situation) (d : Config) → i < m → Reaches (Turns n) i s x → Turns n x y → IsAmid n x y d
      → test d ≡ true)
      → (i : ℕ) → i ≤ run_cost n m s → IsAtMove n s i (run k c i) ⊎ (test (run k c i) ≡ true)
  visit zero s t c stands path room amid i low = let none = cost-none n s in inl
      (at_start n k s c i (omega arith) stands)
  visit (suc m) s t c stands path room amid i low =
      by_place (λ j room_left few. visit m path.0 t first.0 first.2 path.2 room_left
      (λ i x z d less run g h. amid (suc i) x z d (omega arith) (path.0, path.1, run) g h) j few)
      (cases_lt i (step_cost n s))
    where
      y : Situation
      y = path.0

      sum : run_cost n (suc m) s ≡ step_cost n s + run_cost n m y
      sum = cost-more n m s y path.1

      first : (d : Config) × Passes (Goes k) test (step_cost n s) c d × StandsFor n y d
          × (d.steps ≡ c.steps + step_cost n s)
      first = let whole = sum in one-move n k s y c test modules board stands path.1 (omega arith)
          (λ d h. amid 0 s y d (omega arith) refl path.1 h)

      within : (j : ℕ) → i ≡ j → i < step_cost n s → IsAtMove n s i (run k c i) ⊎ (test (run k c i) ≡ true)
      within zero is few = inl (at_start n k s c i is stands)
      within (suc j) is few = inr (paths-between k test (step_cost n s) i c first.0 first.1 (omega arith) few)

      later : (j : ℕ) → i ≡ step_cost n s + j → IsAtMove n y j (run k first.0 j) ⊎ (test (run k first.0 j) ≡ true)
          → IsAtMove n s i (run k c i) ⊎ (test (run k c i) ≡ true)
      later j is found =
          let there : run k c i ≡ run k first.0 j = run_composes k c (step_cost n s) j i is
          ∙ ap (λ x. run k x j) (Reaches-run k (step_cost n s) c first.0
          (passes_run (Goes k) test (step_cost n s) c first.0 first.1)) in
          elim found [
            | inl at ↦ (let more = cost-more n at.moves s y path.1 in let here = at.sum in inl
                (record {
                  moves = suc at.moves;
                  at = at.at;
                  run = (y, path.1, at.run);
                  sum = omega arith;
                  stands = subst (StandsFor n at.at) (sym there) at.stands;
                }))
            | inr holds ↦ inr (ap test there ∙ holds)
          ]

      by_place : ((j : ℕ) → first.0.steps + run_cost n m y ≤ clock → j ≤ run_cost n m y
          → IsAtMove n y j (run k first.0 j) ⊎ (test (run k first.0 j) ≡ true))
          → (i < step_cost n s) ⊎ (step_cost n s ≤ i) → IsAtMove n s i (run k c i) ⊎ (test (run k c i) ≡ true)
      by_place more (inl few) = within i refl few
      by_place more (inr far) =
          let whole = sum in
          let steps : first.0.steps ≡ c.steps + step_cost n s = first.3 in
          later (i - step_cost n s) (omega arith)
          (more (i - step_cost n s) (omega arith) (omega arith))

pub boards-visit : BoardsVisit
boards-visit n k m s t c test modules board stands path room amid i low =
    visit n k modules board test m s t c stands path room amid i low
