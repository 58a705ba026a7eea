-- Runs of any step: the words that machines and circuits share.
-- `step c d` says that one step leads from c to d.
use Rattle.std.specs.Prelude.{◌≡◌, ℕ, ◌+◌, ◌<◌, Bool, true, refl}
use Rattle.std.proofs.Common.{zero, suc, arith, sym, subst}
use Rattle.bn_lists.specs.Runs.{Reaches, Before, Passes, IsFunction}

pub before_by : (n : ℕ) (P : Type 0) → (0 < n → P) → Before n P
before_by zero P h = tt
before_by (suc n) P h = h (omega arith)

pub before_gives : (n : ℕ) (P : Type 0) → 0 < n → Before n P → P
before_gives zero P h b = absurd (omega arith)
before_gives (suc n) P h b = b

module _ {S : Type 0} (step : S → S → Type 0) where
  -- m steps and then n steps are m + n steps
  pub runs_join : (p m n : ℕ) (x y z : S) → p ≡ m + n → Reaches step m x y → Reaches step n y z → Reaches step p x z
  runs_join p zero n x y z sum first second =
      let e : n ≡ p = omega arith in
      let at_p : Reaches step p y z = subst (λ i. Reaches step i y z) e second in
      subst (λ v. Reaches step p v z) (sym first) at_p
  runs_join p (suc m) n x y z sum first second =
      let e : suc (m + n) ≡ p = omega arith in
      subst (λ i. Reaches step i x z) e (first.0, first.1, runs_join (m + n) m n first.0 y z refl first.2 second)

  -- a step more at the end
  pub runs_more : (n : ℕ) (x y z : S) → Reaches step n x y → step y z → Reaches step (n + 1) x z
  runs_more n x y z first last = runs_join (n + 1) n 1 x y z refl first (z, last, refl)

  -- where the step is a function, so is a run of n steps
  pub runs_end_once : IsFunction step → (n : ℕ) (x y z : S) → Reaches step n x y → Reaches step n x z → y ≡ z
  runs_end_once only zero x y z first second = subst (λ v. v ≡ z) first second
  runs_end_once only (suc n) x y z first second =
      let e : first.0 ≡ second.0 = only x first.0 second.0 first.1 second.1 in
      runs_end_once only n second.0 y z (subst (λ v. Reaches step n v y) e first.2) second.2

  -- the run backward: from the end to the start by the step turned round
  pub runs_turned : (n : ℕ) (x y : S) → Reaches step n x y → Reaches (λ c d. step d c) n y x
  runs_turned zero x y run = sym run
  runs_turned (suc n) x y run = turned_more n y run.0 x (runs_turned n run.0 y run.2) run.1
    where
      turned_more : (n : ℕ) (x y z : S) → Reaches (λ c d. step d c) n x y → step z y
          → Reaches (λ c d. step d c) (suc n) x z
      turned_more zero x y z first last = (z, subst (λ v. step z v) (sym first) last, refl)
      turned_more (suc n) x y z first last = (first.0, first.1, turned_more n first.0 y z first.2 last)

  -- a path is a run
  pub passes_run : (test : S → Bool) (n : ℕ) (x y : S) → Passes step test n x y → Reaches step n x y
  passes_run test zero x y path = path
  passes_run test (suc n) x y path = (path.0, path.1, passes_run test n path.0 y path.3)

  -- two paths make one where the state in the middle passes the test, unless it is an end
  pub passes_join : (test : S → Bool) (p m n : ℕ) (x y z : S) → p ≡ m + n → (0 < m → 0 < n → test y ≡ true)
      → Passes step test m x y → Passes step test n y z → Passes step test p x z
  passes_join test p zero n x y z sum middle first second =
      let e : n ≡ p = omega arith in
      let at_p : Passes step test p y z = subst (λ i. Passes step test i y z) e second in
      subst (λ v. Passes step test p v z) (sym first) at_p
  passes_join test p (suc m) n x y z sum middle first second =
      let e : suc (m + n) ≡ p = omega arith in
      let here : Before (m + n) (test first.0 ≡ true) = passes_here test m n first.0 y
      (λ more. middle (omega arith) more) first.2 first.3 in
      subst (λ i. Passes step test i x z) e (
        first.0,
        first.1,
        here,
        passes_join test (m + n) m n first.0 y z refl (λ _ more. middle (omega arith) more) first.3 second,
      )
    where
      passes_here : (test : S → Bool) (m n : ℕ) (x y : S) → (0 < n → test y ≡ true) → Before m (test x ≡ true)
          → Passes step test m x y → Before (m + n) (test x ≡ true)
      passes_here test zero n x y middle before path = before_by (0 + n) (test x ≡ true)
          (λ more. subst (λ v. test v ≡ true) (sym path) (middle (omega arith)))
      passes_here test (suc m) n x y middle before path = before_by (suc m + n) (test x ≡ true) (λ _. before)
