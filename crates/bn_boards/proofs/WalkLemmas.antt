-- Each moment on the network's run is the end of one of the machine's steps, and the board counts them.
use Rattle.std.specs.Prelude.{◌≡◌, ℕ, ◌+◌, ◌-◌, ◌<◌, ◌≤◌, Bool, true, false, not, refl, ◌⊎◌}
use Rattle.std.proofs.Common.{zero, suc, arith, sym, ap, subst, ◌∙◌, inl, inr}
use Rattle.std.proofs.lemmas.Bool.{cases_lt}
use Rattle.std.proofs.lemmas.Option.{same_Some}
use Rattle.bn_lists.specs.Runs.{Reaches, Passes}
use Rattle.bn_lists.proofs.RunsLemmas.{passes_run, runs_end_once}
use Rattle.bn_circuits.specs.Circuits.{Circuit, clock, Goes as BoardGoes}
use Rattle.bn_circuits.specs.declared.config.Config.{Config}
use Rattle.bn_quad.specs.Quadruples.{Configuration}
use Rattle.bn_circuits.specs.Situations.{Situation, Turns, IsAtEnd}
use Rattle.bn_rsm.specs.RunCosts.{run_cost}
use Rattle.bn_circuits.specs.Counting.{tally, one_if}
use Rattle.bn_boards.specs.Boards.{AreModules, IsBoard, StandsFor}
use Rattle.bn_boards.specs.Layouts.{is_moment}
use Rattle.bn_boards.specs.Builds.{Build}
use Rattle.bn_boards.specs.Journeys.{Strides}
use Rattle.bn_boards.specs.Readings.{MomentsAgree}
use Rattle.bn_circuits.proofs.RunPartLemmas.{runs_split}
use Rattle.bn_circuits.proofs.CountingLemmas.{tallies-add, tally-zero}
use Rattle.bn_circuits.proofs.SituationLemmas.{turns-turn}
use Rattle.bn_rsm.proofs.RunCostLemmas.{cost-none, cost-joins}
use Rattle.bn_boards.proofs.TravelLemmas.{leg}

-- one move at most leads on
pub turns_once : (n : Circuit) (s t u : Situation) → Turns n s t → Turns n s u → t ≡ u
turns_once n s t u a b = same_Some t u (sym (turns-turn n s t a) ∙ turns-turn n s u b)

-- what a path says of a situation strictly between its ends
between_holds : (n : Circuit) (test : Situation → Bool) (m i : ℕ) (s t x : Situation) → Passes (Turns n) test m s t
    → Reaches (Turns n) i s x → 0 < i → i < m
    → test x ≡ true
between_holds n test zero i s t x path run some low = absurd (omega arith)
between_holds n test (suc m) zero s t x path run some low = absurd (omega arith)
between_holds n test (suc zero) (suc i) s t x path run some low = absurd (omega arith)
between_holds n test (suc (suc m)) (suc zero) s t x path run some low =
    let same : path.0 ≡ x = turns_once n s path.0 run.0 path.1 run.1 ∙ run.2 in
    subst (λ y. test y ≡ true) same path.2
between_holds n test (suc (suc m)) (suc (suc i)) s t x path run some low =
    let same = turns_once n s run.0 path.0 run.1 path.1 in
    between_holds n test (suc m) (suc i) path.0 t x path.3 (subst (λ y. Reaches (Turns n) (suc i) y x) same run.2)
    (omega arith) (omega arith)

-- a run that goes on past a situation goes on from it
pub goes_on : (n : Circuit) (m i : ℕ) (s t x : Situation) → Reaches (Turns n) m s t → Reaches (Turns n) i s x → m ≤ i
    → Reaches (Turns n) (i - m) t x
goes_on n m i s t x first run low =
    let cut = runs_split (Turns n) m (i - m) i s x (omega arith) run in
    let same = runs_end_once (Turns n) (turns_once n) m s cut.0 t cut.1 first in
    subst (λ y. Reaches (Turns n) (i - m) y x) same cut.2

-- a test and its denial
denied : (b : Bool) → not b ≡ true → b ≡ true → ⊥
denied true h e = absurd (cc)
denied false h e = absurd (cc)

module _ (f : Build) (test : Situation → Bool) (modules : AreModules f.network) (board : IsBoard f.network f.circuit)
    (agree : MomentsAgree f test) where
  -- counts add up
  pub tally_joins : (m i : ℕ) (s t : Situation) (c d : Config) → Reaches (Turns f.network) m s t
      → Reaches (BoardGoes f.circuit) (run_cost f.network m s) c d
      → m ≤ i
      → tally (is_moment f.layout) f.circuit (run_cost f.network i s) c
      ≡ tally (is_moment f.layout) f.circuit (run_cost f.network m s) c
      + tally (is_moment f.layout) f.circuit (run_cost f.network (i - m) t) d
  tally_joins m i s t c d turns run low =
      let sum : i ≡ m + (i - m) = omega arith in
      let cost = ap (λ x. run_cost f.network x s) sum ∙ cost-joins f.network m (i - m) s t turns in
      ap (λ x. tally (is_moment f.layout) f.circuit x c) cost ∙ tallies-add.0 f.circuit (is_moment f.layout)
      (run_cost f.network m s) (run_cost f.network (i - m) t) c d run

  -- from the last moment on there is no other one
  none_after : (m i : ℕ) (s t x : Situation) → Passes (Turns f.network) (λ y. not (test y)) m s t → IsAtEnd f.network t
      → (m ≡ 0) ⊎ (test t ≡ false)
      → Reaches (Turns f.network) i s x → test x ≡ true → i ≡ 0
  none_after m zero s t x path ended quiet run told = refl
  none_after m (suc i) s t x path ended quiet run told =
      elim (cases_lt (suc i) m) [
        | inl less ↦ absurd (denied (test x) (between_holds f.network (λ y. not (test y)) m (suc i) s t x path run
            (omega arith) less) told)
        | inr more ↦ at_or_past (suc i - m) refl (goes_on f.network m (suc i) s t x
            (passes_run (Turns f.network) (λ y. not (test y)) m s t path) run more)
      ]
    where
      at_or_past : (j : ℕ) → suc i - m ≡ j → Reaches (Turns f.network) j t x → suc i ≡ 0
      at_or_past (suc j) is more = absurd (ended more.0 more.1)
      at_or_past zero is more =
          elim quiet [
            | inl none ↦ omega arith
            | inr silent ↦ absurd (let yes : test t ≡ true = subst (λ y. test y ≡ true) (sym more) told in cc)
          ]

  -- i moves from the moment of c to x, which the test marks: so many of the machine's steps, and as many moments on the
  -- board
  pub record Walked (i : ℕ) (s x : Situation) (c : Configuration ℕ) (b : Config) : Type 0 where
    pub steps : ℕ
    pub config : Configuration ℕ
    pub strides : Reaches (Strides f test) steps (s, c) (x, config)
    pub count : tally (is_moment f.layout) f.circuit (run_cost f.network i s) b ≡ steps

  -- no move at all
  stay : (i : ℕ) (s x : Situation) (c : Configuration ℕ) (b : Config) → i ≡ 0 → s ≡ x → Walked i s x c b
  stay i s x c b none same = record {
    steps = 0;
    config = c;
    strides = (λ k. (same k, c));
    count = ap (λ v. tally (is_moment f.layout) f.circuit (run_cost f.network v s) b) none
        ∙ ap (λ v. tally (is_moment f.layout) f.circuit v b) (cost-none f.network s)
        ∙ tally-zero f.circuit (is_moment f.layout) b;
  }

  -- a moment on the way from a moment to the end is that of one of the machine's steps
  pub walk : (n : ℕ) (s u last : Situation) (c d : Configuration ℕ) (m : ℕ) → Reaches (Strides f test) n (s, c) (u, d)
      → Passes (Turns f.network) (λ y. not (test y)) m u last → IsAtEnd f.network last → (m ≡ 0) ⊎ (test last ≡ false)
      → (i : ℕ) (x : Situation) → Reaches (Turns f.network) i s x → test x ≡ true → (b : Config)
      → StandsFor f.network s b
      → b.steps + run_cost f.network i s ≤ clock → Walked i s x c b
  walk zero s u last c d m strides path ended quiet i x run told b stands room =
      let same : s ≡ u = ap (λ (z : Situation × Configuration ℕ). z.0) strides in
      let run' : Reaches (Turns f.network) i u x = subst (λ y. Reaches (Turns f.network) i y x) same run in
      let none = none_after m i u last x path ended quiet run' told in
      let here : u ≡ x = subst (λ v. Reaches (Turns f.network) v u x) none run' in
      stay i s x c b none (same ∙ here)
  walk (suc n) s u last c d m strides path ended quiet zero x run told b stands room = stay 0 s x c b refl run
  walk (suc n) s u last c d m strides path ended quiet (suc i) x run told b stands room =
      let stride = strides.1 in
      let next = strides.0.0 in
      let between : Situation → Bool = λ y. not (test y) in
      elim (cases_lt (suc i) stride.moves) [
        | inl less ↦ absurd (denied (test x) (between_holds f.network between stride.moves (suc i) s next x
            stride.travels.path run (omega arith) less) told)
        | inr more ↦
            (let turns = passes_run (Turns f.network) between stride.moves s next stride.travels.path in
            let sum : suc i ≡ stride.moves + (suc i - stride.moves) = omega arith in
            let cost = ap (λ v. run_cost f.network v s) sum ∙ cost-joins f.network stride.moves (suc i - stride.moves) s
            next turns in
            let first = leg f test modules board agree stride.moves s next b stands stride.some stride.travels.path
            (omega arith) in
            let steps = first.1.steps in
            let rest = walk n next u last strides.0.1 d m strides.2 path ended quiet (suc i - stride.moves) x
            (goes_on f.network stride.moves (suc i) s next x turns run more) told first.0 first.1.stands
            (omega arith) in
            let whole = tally_joins stride.moves (suc i) s next b first.0 turns first.1.run more in
            let one = first.1.counted ∙ ap one_if stride.told in
            let others = rest.count in
            record {
              steps = suc rest.steps;
              config = rest.config;
              strides = (strides.0, stride, rest.strides);
              count = omega arith;
            })
      ]
