-- Counted steps and steps without a count.
use Rattle.std.specs.Prelude.{◌≡◌, ℕ, ◌+◌, ◌≤◌, Bool, Some, refl}
use Rattle.std.proofs.Common.{zero, suc, arith, sym, ap, subst, ◌∙◌}
use Rattle.bn_lists.specs.Runs.{Passes}
use Rattle.bn_circuits.specs.Circuits.{Circuit, clock, Goes}
use Rattle.bn_circuits.specs.declared.place.Place.TheVariants.{Enter}
use Rattle.bn_circuits.specs.declared.config.Config.{Config}
use Rattle.bn_circuits.specs.Situations.{Situation, situation_of, counted, Turns, crossed, turn, turn_from}
use Rattle.bn_circuits.specs.Situations.{StepsAreCounted}

turns_goes : (k : Circuit) (s t : Situation) (n : ℕ) → Turns k s t → n + 1 ≤ clock
    → Goes k (counted s n) (counted t (n + 1))
turns_goes k s t n g in_time = record { crosses = g; steps = refl; in_time = in_time }

pub steps-counted : StepsAreCounted
steps-counted = (λ k c d g. (g.crosses, g.steps, g.in_time), turns_goes)

module _ (k : Circuit) (test : Situation → Bool) where
  paths : (n : ℕ) (s t : Situation) (p q : ℕ) → q ≡ p + n → Passes (Turns k) test n s t → q ≤ clock
      → Passes (Goes k) (λ d. test (situation_of d)) n (counted s p) (counted t q)
  paths zero s t p q sum path in_time =
      let count : p ≡ q = omega arith in
      ap (λ x. counted x p) path ∙ ap (counted t) count
  paths (suc n) s t p q sum path in_time =
      let more : q ≡ (p + 1) + n = omega arith in (
        counted path.0 (p + 1),
        turns_goes k s path.0 p path.1 (omega arith),
        path.2,
        paths n path.0 t (p + 1) q more path.3 in_time,
      )

  pub paths-counted : (n : ℕ) (s t : Situation) (c : Config) → situation_of c ≡ s → Passes (Turns k) test n s t
      → c.steps + n ≤ clock → Passes (Goes k) (λ d. test (situation_of d)) n c (counted t (c.steps + n))
  paths-counted n s t c is path in_time =
      let start : c ≡ counted s c.steps = ap (λ (x : Situation). counted x c.steps) is in
      subst (λ x. Passes (Goes k) (λ d. test (situation_of d)) n x (counted t (c.steps + n))) (sym start)
      (paths n s t c.steps (c.steps + n) refl path in_time)

-- two situations with the same parts are the same
pub same_situation : (s t : Situation) → s.states ≡ t.states → s.place ≡ t.place → s ≡ t
same_situation s t states place = λ i. record { states = states i; place = place i }

-- a step is what the function gives
pub turns-turn : (k : Circuit) (s t : Situation) → Turns k s t → turn k s ≡ Some t
turns-turn k s t g =
    let whole : crossed k s.states g.element (g.after, g.output) ≡ t =
    same_situation (crossed k s.states g.element (g.after, g.output)) t (sym g.states) (sym g.place) in
    let by_place : turn k s ≡ turn_from k s.states (Enter g.element g.input) = ap (turn_from k s.states) g.enters in
    by_place ∙ rw (g.has_state, g.moves) (ap Some whole)

-- the step is a function
pub turns_once : (k : Circuit) (s t u : Situation) → Turns k s t → Turns k s u → t ≡ u
turns_once k s t u first second = let a = turns-turn k s t first in let b = turns-turn k s u second in cc
