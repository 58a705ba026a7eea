-- A board's whole run, the way to a loose line included: what a test says at each step.
use Rattle.std.specs.Prelude.{◌≡◌, ℕ, ◌+◌, ◌-◌, ◌<◌, ◌≤◌, Bool, true, refl, ◌⊎◌}
use Rattle.std.proofs.Common.{zero, suc, arith, sym, ap, subst, ◌∙◌, inl, inr}
use Rattle.std.proofs.lemmas.Bool.{cases_lt}
use Rattle.bn_lists.specs.Runs.{Reaches, Passes, Before}
use Rattle.bn_lists.proofs.RunsLemmas.{passes_run}
use Rattle.bn_circuits.specs.Circuits.{Circuit, clock, Goes}
use Rattle.bn_circuits.specs.Stepping.{run}
use Rattle.bn_circuits.proofs.RunLemmas.{Reaches-run, run_composes}
use Rattle.bn_circuits.specs.declared.place.Place.{Place}
use Rattle.bn_circuits.specs.declared.place.Place.TheVariants.{Enter, Left}
use Rattle.bn_circuits.specs.declared.config.Config.{Config}
use Rattle.bn_circuits.specs.Situations.{Situation, Turns, IsAtEnd}
use Rattle.bn_rsm.specs.RunCosts.{run_cost, step_cost, entry_cost}
use Rattle.bn_boards.specs.Boards.{AreModules, IsBoard, StandsFor, IsAmid, IsLoose}
use Rattle.bn_boards.specs.BoardLaws.{IsAtMove}
use Rattle.bn_circuits.proofs.RunPartLemmas.{paths-between}
use Rattle.bn_boards.proofs.FollowedLemmas.{boards-follow}
use Rattle.bn_rsm.proofs.RunCostLemmas.{cost-joins, one_cost}
use Rattle.bn_boards.proofs.VisitedLemmas.{boards-visit}
use Rattle.bn_boards.proofs.LooseLemmas.{loose-move}

-- a run is a path whose claim is empty
passes_all : {S : Type 0} (step : S → S → Type 0) (n : ℕ) (x y : S) → Reaches step n x y → Passes step (λ s. true) n x y
passes_all step zero x y path = path
passes_all step (suc n) x y path = (path.0, path.1, before n, passes_all step n path.0 y path.2)
  where
    before : (n : ℕ) → Before n (true ≡ true)
    before zero = tt
    before (suc n) = refl

module _ (n k : Circuit) (modules : AreModules n) (board : IsBoard n k) (start : Situation) (c : Config)
    (stands : StandsFor n start c) where
  -- where the network's run comes, the board's run comes
  pub reach : (i : ℕ) (x : Situation) → Reaches (Turns n) i start x → c.steps + run_cost n i start ≤ clock
      → StandsFor n x (run k c (run_cost n i start))
      × ((run k c (run_cost n i start)).steps ≡ c.steps + run_cost n i start)
  reach i x path room =
      let follow = boards-follow n k i start x c (λ s. true) (λ d. true) modules board stands
      (passes_all (Turns n) i start x path) room (λ j y z d low r g h. refl) (λ y d h e. refl) in
      let there = Reaches-run k (run_cost n i start) c follow.0
      (passes_run (Goes k) (λ d. true) (run_cost n i start) c follow.0 follow.1) in
      (subst (StandsFor n x) (sym there) follow.2, ap (λ (d : Config). d.steps) there ∙ follow.3)

  module _ (moves cost : ℕ) (last : Situation) (path : Reaches (Turns n) moves start last) (ended : IsAtEnd n last)
      (is : cost ≡ run_cost n (moves + 1) start) (room : c.steps + cost ≤ clock) (test : Config → Bool)
      (amid : (i : ℕ) (x y : Situation) (d : Config) → Reaches (Turns n) i start x → Turns n x y ⊎ (x ≡ y)
      → IsAmid n x y d
      → test d ≡ true) (loose : (d : Config) → IsLoose n last d → test d ≡ true) where
    -- the cost is that of the moves and of the way to the loose line
    sum : cost ≡ run_cost n moves start + step_cost n last
    sum = is ∙ cost-joins n moves 1 start last path ∙ ap (λ x. run_cost n moves start + x) (one_cost n last)

    -- on the way to the loose line
    beyond : (t j : ℕ) (p : Place) → last.place ≡ p → t ≡ run_cost n moves start + j → 0 < j → j ≤ step_cost n last
        → test (run k c t) ≡ true
    beyond t j (Left e o) place count some within =
        let none : step_cost n last ≡ 0 = ap (entry_cost n last.states) place in
        absurd (omega arith)
    beyond t j (Enter e i) place count some within =
        let whole = sum in
        let at = reach moves last path (omega arith) in
        let steps : (run k c (run_cost n moves start)).steps ≡ c.steps + run_cost n moves start = at.1 in
        let d = run k c (run_cost n moves start) in
        let way = loose-move n k last e i d test modules board at.0 ended place (omega arith)
        (λ x h. amid moves last last x path (inr refl) h) in
        let there : run k c t ≡ run k d j = run_composes k c (run_cost n moves start) j t count in
        elim (cases_lt j (step_cost n last)) [
          | inl less ↦ ap test there ∙ paths-between k test (step_cost n last) j d way.0 way.1 some less
          | inr more ↦
              (let all : j ≡ step_cost n last = omega arith in
              let arrives = Reaches-run k (step_cost n last) d way.0
              (passes_run (Goes k) test (step_cost n last) d way.0 way.1) in
              ap test (there ∙ ap (run k d) all ∙ arrives) ∙ loose way.0 way.2)
        ]

    -- at each step the board stands for a situation, or the test holds
    pub visits : (t : ℕ) → t ≤ cost → IsAtMove n start t (run k c t) ⊎ (test (run k c t) ≡ true)
    visits t low =
        let whole = sum in
        elim (cases_lt (run_cost n moves start) t) [
          | inl over ↦ inr (beyond t (t - run_cost n moves start) last.place refl (omega arith) (omega arith)
              (omega arith))
          | inr under ↦ boards-visit n k moves start last c test modules board stands path (omega arith)
              (λ i x y d few r g h. amid i x y d r (inl g) h) t under
        ]
