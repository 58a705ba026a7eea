-- Where watched ways end.
use Rattle.std.specs.Prelude.{◌≡◌, ℕ, ◌+◌, ◌-◌, ◌<◌, ◌≤◌, ◌==◌, Bool, List, Option, true, false, refl, ◌⊎◌}
use Rattle.std.specs.Bool.{OnTrue, OnFalse}
use Rattle.std.proofs.Common.{zero, suc, arith, sym, ap, subst, ◌∙◌, inl, inr}
use Rattle.std.proofs.lemmas.Bool.{cases_Bool}
use Rattle.bn_circuits.specs.Circuits.{Circuit, IsCircuit, IsConfig}
use Rattle.bn_circuits.specs.Stepping.{run, back, advance, retreat}
use Rattle.bn_circuits.proofs.RunLemmas.{run-zero, back-zero, run_composes, back_composes, next-stuck, previous-first}
use Rattle.bn_circuits.proofs.StepLemmas.{Goes-next, Goes-previous}
use Rattle.bn_circuits.specs.declared.config.Config.{Config}
use Rattle.bn_circuits.specs.RotaryNets.{rotary_circuit}
use Rattle.bn_board.specs.Flattened.{Flattened, IsBoardKept, IsSameBoard}
use Rattle.bn_packed.specs.Running.{GoesTo, IsAtEnd, LeadsTo, run_along}
use Rattle.bn_packed.specs.declared.direction.Direction.{Direction}
use Rattle.bn_packed.specs.declared.direction.Direction.TheVariants.{Forward, Backward}
use Rattle.bn_session.specs.Breakpoints.{Breakpoint}
use Rattle.bn_session.specs.Plays.{IsStop, at_hit, at_last, stops}
use Rattle.bn_session.specs.Walks.{once_along, walk}

module _ (test : Config → Bool) (once : Config → Config) where
  pub walk-zero : (c : Config) → walk test once 0 c ≡ c
  unfolding walk
  walk-zero c = refl

  pub walk-hit : (e : ℕ) (c : Config) → test (once c) ≡ true → walk test once (suc e) c ≡ once c
  unfolding walk
  walk-hit e c h = rw h refl

  pub walk-on : (e : ℕ) (c : Config) → test (once c) ≡ false → walk test once (suc e) c ≡ walk test once e (once c)
  unfolding walk
  walk-on e c h = rw h refl

  -- where no step leads on
  pub walk-still : (e : ℕ) (c : Config) → once c ≡ c → walk test once e c ≡ c
  walk-still zero c still = walk-zero c
  walk-still (suc e) c still = elim (cases_Bool (test (once c))) [
    | inl met ↦ walk-hit e c met ∙ still
    | inr unmet ↦ walk-on e c unmet ∙ ap (walk test once e) still ∙ walk-still e c still
  ]

  -- a way that begins with a step at which the test doesn't hold
  behind : (far : ℕ → Config) (on : ℕ → Config) (e : ℕ) (d : Config) → ((j : ℕ) → far (suc j) ≡ on j)
      → test (far 1) ≡ false → IsStop test on e d → IsStop test far (suc e) d
  behind far on e d shifted unmet (at_hit j some few met before is) =
      at_hit (suc j) (omega arith) (omega arith) (ap test (shifted j) ∙ met) (λ i more less. earlier i more less)
      (is ∙ sym (shifted j))
    where
      earlier : (i : ℕ) → 1 ≤ i → i < suc j → test (far i) ≡ false
      earlier zero more less = absurd (omega arith)
      earlier (suc zero) more less = unmet
      earlier (suc (suc i)) more less = ap test (shifted (suc i)) ∙ before (suc i) (omega arith) (omega arith)
  behind far on e d shifted unmet (at_last none is) = at_last (λ i more less. earlier i more less)
      (is ∙ sym (shifted e))
    where
      earlier : (i : ℕ) → 1 ≤ i → i ≤ suc e → test (far i) ≡ false
      earlier zero more less = absurd (omega arith)
      earlier (suc zero) more less = unmet
      earlier (suc (suc i)) more less = ap test (shifted (suc i)) ∙ none (suc i) (omega arith) (omega arith)

  -- by any way that begins at c and goes on as another one from the next place
  walked : (way : Config → ℕ → Config) → ((c : Config) → way c 0 ≡ c)
      → ((c : Config) (j : ℕ) → way c (suc j) ≡ way (once c) j) → (e : ℕ) (c : Config)
      → IsStop test (way c) e (walk test once e c)
  walked way begins goes zero c = at_last (λ i some few. absurd (omega arith)) (walk-zero c ∙ sym (begins c))
  walked way begins goes (suc e) c = by (cases_Bool (test (once c))) (walked way begins goes e (once c))
    where
      first : way c 1 ≡ once c
      first = goes c 0 ∙ begins (once c)

      by : (test (once c) ≡ true) ⊎ (test (once c) ≡ false) → IsStop test (way (once c)) e (walk test once e (once c))
          → IsStop test (way c) (suc e) (walk test once (suc e) c)
      by (inl met) rest = at_hit 1 (omega arith) (omega arith) (ap test first ∙ met)
          (λ i some less. absurd (omega arith)) (walk-hit e c met ∙ sym first)
      by (inr unmet) rest = subst (λ x. IsStop test (way c) (suc e) x) (sym (walk-on e c unmet))
          (behind (way c) (way (once c)) e (walk test once e (once c)) (goes c) (ap test first ∙ unmet) rest)

  -- ---- how far a walk has come: what is left of it ends where it does

  module _ (count made : ℕ) (c0 c : Config) (left : walk test once (count - made) c ≡ walk test once count c0) where
    pub ends_still : once c ≡ c → c ≡ walk test once count c0
    ends_still still = sym (walk-still (count - made) c still) ∙ left

    pub ends_last : count ≤ made → c ≡ walk test once count c0
    ends_last all = let none : count - made ≡ 0 = omega arith in sym (walk-zero c)
        ∙ ap (λ n. walk test once n c) (sym none) ∙ left

    pub ends_hit : (d : Config) → made < count → once c ≡ d → test d ≡ true → d ≡ walk test once count c0
    ends_hit d more goes met =
        let one : count - made ≡ suc (count - (made + 1)) = omega arith in
        sym goes ∙ sym (walk-hit (count - (made + 1)) c (ap test goes ∙ met)) ∙ ap (λ n. walk test once n c) (sym one)
        ∙ left

    pub goes_on : (d : Config) → made < count → once c ≡ d → test d ≡ false
        → walk test once (count - (made + 1)) d ≡ walk test once count c0
    goes_on d more goes unmet =
        let one : count - made ≡ suc (count - (made + 1)) = omega arith in
        ap (walk test once (count - (made + 1))) (sym goes) ∙ sym
        (walk-on (count - (made + 1)) c (ap test goes ∙ unmet)) ∙ ap (λ n. walk test once n c) (sym one) ∙ left

run-once : (k : Circuit) (c : Config) → run k c 1 ≡ advance k c
unfolding run
run-once k c = refl

back-once : (k : Circuit) (c : Config) → back k c 1 ≡ retreat k c
unfolding back
back-once k c = refl

-- a step in a direction is a run of one step
pub once_run : (way : Direction) (k : Circuit) (c : Config) → run_along way k c 1 ≡ once_along way k c
once_run Forward k c = run-once k c
once_run Backward k c = back-once k c

run-shifts : (k : Circuit) (c : Config) (j : ℕ) → run k c (suc j) ≡ run k (advance k c) j
run-shifts k c j = run_composes k c 1 j (suc j) (omega arith) ∙ ap (λ x. run k x j) (run-once k c)

back-shifts : (k : Circuit) (c : Config) (j : ℕ) → back k c (suc j) ≡ back k (retreat k c) j
back-shifts k c j = back_composes k c 1 j (suc j) (omega arith) ∙ ap (λ x. back k x j) (back-once k c)

-- a walk stops where the way does
pub walk-stops : (way : Direction) (k : Circuit) (test : Config → Bool) (e : ℕ) (c d : Config)
    → d ≡ walk test (once_along way k) e c →
    IsStop test (run_along way k c) e d
walk-stops Forward k test e c d is = subst (IsStop test (run k c) e) (sym is)
    (walked test (advance k) (run k) (run-zero k) (run-shifts k) e c)
walk-stops Backward k test e c d is = subst (IsStop test (back k c) e) (sym is)
    (walked test (retreat k) (back k) (back-zero k) (back-shifts k) e c)

-- ---- on a circuit that is the same as at the start, but for its configuration

pub tested_on : (moment later : Config → Option ℕ) → later ≡ moment → (breaks : List Breakpoint) (c : Config) (x : Bool)
    → x ≡ stops later breaks c → stops moment breaks c ≡ x
tested_on moment later same breaks c x is = ap (λ m. stops m breaks c) (sym same) ∙ sym is

-- ---- a step in a direction

-- where a run of one step makes none, nothing has changed
pub none_made : (way : Direction) (k : Circuit) (n : ℕ) (c d : Config) → LeadsTo way k n c d → n ≤ 1
    → (n == 1) ≡ false → d ≡ c
none_made Forward k zero c d path few none = sym path
none_made Backward k zero c d path few none = path
none_made way k (suc zero) c d path few none = absurd (cc)
none_made way k (suc (suc n)) c d path few none = absurd (omega arith)

module _ (k : Circuit) (circuit : IsCircuit k) where
  pub goes_once : (way : Direction) (c d : Config) → GoesTo way k c d → d ≡ once_along way k c
  goes_once Forward c d goes = rw (Goes-next k c d goes) refl
  goes_once Backward c d goes = rw (Goes-previous k circuit d c goes) refl

  -- where there is none
  pub stays_once : (way : Direction) (c : Config) → IsConfig k c → IsAtEnd way k c → c ≡ once_along way k c
  stays_once Forward c good stuck = rw (next-stuck k c stuck) refl
  stays_once Backward c good first = rw (previous-first k circuit c good first) refl

-- a step of a board, or none
pub board_stepped : (a b : Flattened) (way : Direction) (made : Bool)
    → OnTrue made (GoesTo way (rotary_circuit a.net) a.config b.config) → OnFalse made (b ≡ a)
    → OnFalse made (IsAtEnd way (rotary_circuit a.net) a.config) → IsSameBoard a b → IsBoardKept b
    → b.config ≡ once_along way (rotary_circuit a.net) a.config
board_stepped a b way true goes kept ended same board =
    goes_once (rotary_circuit a.net) (subst (λ n. IsCircuit (rotary_circuit n)) same.net board.circuit) way a.config
    b.config goes
board_stepped a b way false goes kept ended same board =
    ap (λ (x : Flattened). x.config) kept
    ∙ stays_once (rotary_circuit a.net) (subst (λ n. IsCircuit (rotary_circuit n)) same.net board.circuit) way a.config
    (subst (λ (x : Flattened). IsConfig (rotary_circuit x.net) x.config) kept board.reached.good) ended

pub board_kept : (a b : Flattened) (made : Bool) → OnFalse made (b ≡ a) → OnFalse made (b.config ≡ a.config)
board_kept a b true kept = tt
board_kept a b false kept = ap (λ (x : Flattened). x.config) kept
