-- A run of a network is a run of its board.
use Rattle.std.specs.Prelude.{◌≡◌, ℕ, ◌+◌, ◌<◌, ◌≤◌, Bool, true, refl}
use Rattle.std.proofs.Common.{zero, suc, arith, sym, subst}
use Rattle.bn_lists.specs.Runs.{Reaches, Passes, Before}
use Rattle.bn_lists.proofs.RunsLemmas.{passes_join}
use Rattle.bn_circuits.specs.Circuits.{Circuit, clock, Goes}
use Rattle.bn_circuits.specs.declared.config.Config.{Config}
use Rattle.bn_circuits.specs.Situations.{Situation, Turns}
use Rattle.bn_rsm.specs.RunCosts.{step_cost, run_cost}
use Rattle.bn_boards.specs.Boards.{AreModules, IsBoard, StandsFor, IsAmid}
use Rattle.bn_boards.specs.BoardLaws.{BoardsFollow}
use Rattle.bn_rsm.proofs.RunCostLemmas.{cost-more, cost-none}
use Rattle.bn_boards.proofs.MovedLemmas.{one-move}

module _ (n k : Circuit) (modules : AreModules n) (board : IsBoard n k) (between : Situation → Bool) (test : Config
    → Bool) (open_ : (x : Situation) (d : Config) → StandsFor n x d → between x ≡ true → test d ≡ true) where
  passes_middle : (m : ℕ) (y : Situation) (d : Config) → StandsFor n y d → Before m (between y ≡ true)
      → 0 < run_cost n m y → test d ≡ true
  passes_middle zero y d stands before some = let none = cost-none n y in absurd (omega arith)
  passes_middle (suc m) y d stands before some = open_ y d stands before

  follow : (m : ℕ) (s t : Situation) (c : Config) → StandsFor n s c → Passes (Turns n) between m s t
      → c.steps + run_cost n m s ≤ clock
      → ((i : ℕ) (x y : Situation) (d : Config) → i < m → Reaches (Turns n) i s x → Turns n x y → IsAmid n x y d
      → test d ≡ true)
      → (d : Config) × Passes (Goes k) test (run_cost n m s) c d × StandsFor n t d
      × (d.steps ≡ c.steps + run_cost n m s)
  follow zero s t c stands path room amid =
      let none = cost-none n s in (
        c,
        subst (λ x. Passes (Goes k) test x c c) (sym none) refl,
        subst (λ x. StandsFor n x c) path stands,
        omega arith,
      )
  follow (suc m) s t c stands path room amid =
      let y = path.0 in
      let sum = cost-more n m s y path.1 in
      let first = one-move n k s y c test modules board stands path.1 (omega arith)
      (λ d h. amid 0 s y d (omega arith) refl path.1 h) in
      let steps : first.0.steps ≡ c.steps + step_cost n s = first.3 in
      let rest = follow m y t first.0 first.2 path.3 (omega arith)
      (λ i x z d low run g h. amid (suc i) x z d (omega arith) (y, path.1, run) g h) in
      let more : rest.0.steps ≡ first.0.steps + run_cost n m y = rest.3 in (
        rest.0,
        passes_join (Goes k) test (run_cost n (suc m) s) (step_cost n s) (run_cost n m y) c first.0 rest.0 sum
            (λ _ some. passes_middle m y first.0 first.2 path.2 some) first.1 rest.1,
        rest.2,
        omega arith,
      )

pub boards-follow : BoardsFollow
boards-follow n k m s t c between test modules board stands path room amid open_ =
    follow n k modules board between test open_ m s t c stands path room amid
