-- Costs along a run add up.
use Rattle.std.specs.Prelude.{◌≡◌, ℕ, ◌+◌, ◌<◌, List, Option, Some, None, slice_get, option_and_then, refl}
use Rattle.std.specs.Option.{option_map_or}
use Rattle.std.proofs.Common.{zero, suc, arith, ap, ◌∙◌}
use Rattle.bn_lists.specs.Runs.{Reaches}
use Rattle.bn_element.specs.Tables.{Table}
use Rattle.bn_circuits.specs.Circuits.{Circuit, go_of}
use Rattle.bn_circuits.specs.Situations.{Situation, Turns, turn}
use Rattle.bn_circuits.specs.declared.place.Place.TheVariants.{Left}
use Rattle.bn_circuits.proofs.SituationLemmas.{turns-turn}
use Rattle.bn_rsm.specs.Costs.{table_cost, cost_by}
use Rattle.bn_rsm.specs.RunCosts.{run_cost, step_cost, entry_cost}

module _ (k : Circuit) where
  pub cost-none : (s : Situation) → run_cost k 0 s ≡ 0
  unfolding run_cost
  cost-none s = refl

  pub cost-more : (n : ℕ) (s t : Situation) → Turns k s t → run_cost k (suc n) s ≡ step_cost k s + run_cost k n t
  unfolding run_cost
  cost-more n s t g = rw (turns-turn k s t g) refl

  pub one_cost : (s : Situation) → run_cost k 1 s ≡ step_cost k s
  unfolding run_cost
  one_cost s = by_turn (turn k s)
    where
      by_turn : (o : Option Situation) → step_cost k s + option_map_or (λ x. run_cost k 0 x) o 0 ≡ step_cost k s
      by_turn None = omega arith
      by_turn (Some t) = omega arith

  -- the cost of m steps and then of n
  pub cost-joins : (m n : ℕ) (s t : Situation) → Reaches (Turns k) m s t
      → run_cost k (m + n) s ≡ run_cost k m s + run_cost k n t
  cost-joins zero n s t path =
      let none = cost-none s in
      let count : zero + n ≡ n = omega arith in
      let there : run_cost k n s ≡ run_cost k n t = ap (run_cost k n) path in
      ap (λ x. run_cost k x s) count ∙ omega arith
  cost-joins (suc m) n s t path =
      let y = path.0 in
      let count : suc m + n ≡ suc (m + n) = omega arith in
      let whole = cost-more (m + n) s y path.1 in
      let part = cost-more m s y path.1 in
      let rest = cost-joins m n y t path.2 in
      ap (λ x. run_cost k x s) count ∙ omega arith

  -- once the signal has left nothing costs
  pub left_cost : (s : Situation) (e o : ℕ) → s.place ≡ Left e o → step_cost k s ≡ 0
  left_cost s e o h = ap (entry_cost k s.states) h

  -- a move costs something
  pub some_cost : (t : Table) (q i : ℕ) → 0 < table_cost t q i
  some_cost t q i = by_move (t.go q i)
    where
      by_move : (o : Option (ℕ × ℕ)) → 0 < cost_by t.states t.inputs q i o
      by_move None = omega arith
      by_move (Some m) = omega arith

  has_table : (ts : List Table) (e q i : ℕ) (m : ℕ × ℕ) → go_of ts e q i ≡ Some m
      → (t : Table) × (slice_get ts e ≡ Some t)
  has_table ts e q i m h = by_option (slice_get ts e) refl h
    where
      by_option : (o : Option Table) → slice_get ts e ≡ o → option_and_then (λ (t : Table). t.go q i) o ≡ Some m
          → (t : Table) × (slice_get ts e ≡ Some t)
      by_option None is h = absurd (cc)
      by_option (Some t) is h = (t, is)

  pub step_some : (s t : Situation) → Turns k s t → 0 < step_cost k s
  step_some s t g =
      let found = has_table k.tables g.element g.before g.input (g.after, g.output) g.moves in
      let cost : step_cost k s ≡ table_cost found.0 g.before g.input =
      ap (entry_cost k s.states) g.enters ∙ rw (g.has_state, found.1) refl in
      rw cost (some_cost found.0 g.before g.input)

  -- so does a run of some moves
  pub cost_some : (m : ℕ) (s t : Situation) → 0 < m → Reaches (Turns k) m s t → 0 < run_cost k m s
  cost_some zero s t some path = absurd (omega arith)
  cost_some (suc m) s t some path = let here = step_some s path.0 path.1 in let more =
      cost-more m s path.0 path.1 in omega arith
