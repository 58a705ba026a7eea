-- One-to-one steps among finitely many elements end, from an element that no step leads to.
use Rattle.std.specs.Prelude.{◌≡◌, ℕ, ◌+◌, ◌<◌, List, [], ◌∷◌, length, Option, Some, None, slice_get, ◌⊎◌, refl}
use Rattle.std.specs.List.{range_with_len}
use Rattle.std.proofs.Common.{zero, suc, arith, sym, ap, subst, ◌∙◌, inl, inr}
use Rattle.std.proofs.lemmas.List.FromFn.{length-range_with_len}
use Rattle.bn_lists.specs.Runs.{Reaches, IsFunction}
use Rattle.bn_lists.proofs.ApartLemmas.{IsApart, IsWithin, apart_places, fewer, range_member}
use Rattle.bn_lists.proofs.LeastLemmas.{least_once}
use Rattle.bn_lists.proofs.MemberLemmas.{place_of}
use Rattle.bn_lists.proofs.RunsLemmas.{runs_more}
use Rattle.bn_lists.specs.Finite.{IsFinitePermuting, EndsBelow, OneToOneStepsEnd}

module _ {A : Type 0} (Holds : A → Type 0) (step : A → A → Type 0) (bound : ℕ) (is : IsFinitePermuting Holds step bound)
  where
    -- the last step of a run
    record Last (n : ℕ) (x z : A) : Type 0 where
      pub before : A
      pub holds : Holds before
      pub run : Reaches step n x before
      pub goes : step before z

    last : (n : ℕ) (x z : A) → Holds x → Reaches step (suc n) x z → Last n x z
    last zero x z here run = record {
      before = x;
      holds = here;
      run = refl;
      goes = subst (λ v. step x v) run.2 run.1;
    }
    last (suc n) x z here run =
        let more = last n run.0 z (is.stays x run.0 here run.1) run.2 in
        record { before = more.before; holds = more.holds; run = (run.0, run.1, more.run); goes = more.goes }

    -- two runs of different length from an element that no step leads to don't meet
    apart_runs : (i j : ℕ) (x y : A) → Holds x → ((a : A) → Holds a → step a x → ⊥) → i < j → Reaches step i x y
        → Reaches step j x y → ⊥
    apart_runs i zero x y here first low one two = absurd (omega arith)
    apart_runs zero (suc j) x y here first low one two =
        let b = last j x y here two in
        first b.before b.holds (subst (λ v. step b.before v) (sym one) b.goes)
    apart_runs (suc i) (suc j) x y here first low one two =
        let a = last i x y here one in
        let b = last j x y here two in
        let same : b.before ≡ a.before = is.one_to_one b.before a.before y b.holds a.holds b.goes a.goes in
        apart_runs i j x a.before here first (omega arith) a.run (subst (λ v. Reaches step j x v) same b.run)

    -- the numbers of the elements of a run
    trail : (n : ℕ) (x y : A) → Reaches step n x y → List ℕ
    trail zero x y run = is.number x ∷ []
    trail (suc n) x y run = is.number x ∷ trail n run.0 y run.2

    trail_long : (n : ℕ) (x y : A) (run : Reaches step n x y) → length (trail n x y run) ≡ suc n
    unfolding trail
    trail_long zero x y run = refl
    trail_long (suc n) x y run = ap suc (trail_long n run.0 y run.2)

    record Numbered (x : A) (i c : ℕ) : Type 0 where
      pub element : A
      pub holds : Holds element
      pub run : Reaches step i x element
      pub is_number : is.number element ≡ c

    at_trail : (n : ℕ) (x y : A) (run : Reaches step n x y) → Holds x → (i c : ℕ)
        → slice_get (trail n x y run) i ≡ Some c → Numbered x i c
    unfolding trail
    at_trail zero x y run here zero c e = record { element = x; holds = here; run = refl; is_number = cc }
    at_trail zero x y run here (suc i) c e = absurd (cc)
    at_trail (suc n) x y run here zero c e = record { element = x; holds = here; run = refl; is_number = cc }
    at_trail (suc n) x y run here (suc i) c e =
        let more = at_trail n run.0 y run.2 (is.stays x run.0 here run.1) i c e in
        record {
          element = more.element;
          holds = more.holds;
          run = (run.0, run.1, more.run);
          is_number = more.is_number;
        }

    module _ (x : A) (here : Holds x) (first : (a : A) → Holds a → step a x → ⊥) where
      one_place : (i j c : ℕ) → Numbered x i c → Numbered x j c → i ≡ j
      one_place i j c a b =
          let same : a.element ≡ b.element = is.apart a.element b.element a.holds b.holds
          (a.is_number ∙ sym b.is_number) in
          let to_b : Reaches step i x b.element = subst (λ v. Reaches step i x v) same a.run in
          least_once i j (λ low. apart_runs i j x b.element here first low to_b b.run)
          (λ low. apart_runs j i x b.element here first low b.run to_b)

      -- so a run has fewer steps than there are elements
      few_steps : (n : ℕ) (y : A) → Reaches step n x y → n < bound
      few_steps n y run =
          let apart : IsApart (trail n x y run) = apart_places (trail n x y run)
          (λ i j c e f. one_place i j c (at_trail n x y run here i c e) (at_trail n x y run here j c f)) in
          let within : IsWithin (trail n x y run) (range_with_len 0 bound) = λ c h.
          (let place = place_of (trail n x y run) c h in
          let a = at_trail n x y run here place.0 c place.1 in
          let low = is.below a.element a.holds in
          let number = a.is_number in
          range_member 0 bound c (omega arith) (omega arith)) in
          let less = fewer (trail n x y run) (range_with_len 0 bound) apart within in
          omega (arith, trail_long n x y run, length-range_with_len 0 bound)

      module _ (Ended : A → Type 0) (decides : (a : A) → Holds a → ((b : A) × step a b) ⊎ Ended a) where
        seek : (fuel n : ℕ) (y : A) → n + fuel ≡ bound → Reaches step n x y → Holds y
            → EndsBelow Holds step Ended bound x
        seek zero n y sum run holds = let few = few_steps n y run in absurd (omega arith)
        seek (suc fuel) n y sum run holds =
            elim (decides y holds) [
              | inl more ↦ seek fuel (n + 1) more.0 (omega arith) (runs_more step n x y more.0 run more.1)
                  (is.stays y more.0 holds more.1)
              | inr ended ↦ record {
                steps = n;
                last = y;
                few = few_steps n y run;
                run = run;
                holds = holds;
                ended = ended;
              }
            ]

-- the law: where from each element that holds a step leads on or the run has ended
pub ends_below : {A : Type 0} (Holds : A → Type 0) (step : A → A → Type 0) (Ended : A → Type 0) (bound : ℕ)
    → IsFinitePermuting Holds step bound → ((a : A) → Holds a → ((b : A) × step a b) ⊎ Ended a)
    → (start : A) → Holds start → ((a : A) → Holds a → step a start → ⊥) → EndsBelow Holds step Ended bound start
ends_below Holds step Ended bound is decides start here first =
    seek Holds step bound is start here first Ended decides bound 0 start (omega arith) refl here

some_or_none : (o : Option ℕ) → ((b : ℕ) × (o ≡ Some b)) ⊎ (o ≡ None)
some_or_none None = inr refl
some_or_none (Some b) = inl (b, refl)

-- the law on numbers
pub numbers_end : OneToOneStepsEnd
numbers_end step bound start low stays one_to_one first =
    ends_below (λ a. a < bound) (λ a b. step a ≡ Some b) (λ a. step a ≡ None) bound
    (record {
      number = λ a. a;
      below = λ a h. h;
      apart = λ a b h k e. e;
      stays = stays;
      one_to_one = one_to_one;
    }) (λ a h. some_or_none (step a)) start low first

-- where the step is a function, two runs from one element to where no step leads on are one
pub runs_stop_once : {A : Type 0} (step : A → A → Type 0) → IsFunction step → (m n : ℕ) (x y z : A)
    → Reaches step m x y → Reaches step n x z → ((a : A) → step y a → ⊥) → ((a : A) → step z a → ⊥) → (m ≡ n) × (y ≡ z)
runs_stop_once step only zero zero x y z one two ends other = (refl, sym one ∙ two)
runs_stop_once step only zero (suc n) x y z one two ends other =
    absurd (ends two.0 (subst (λ v. step v two.0) one two.1))
runs_stop_once step only (suc m) zero x y z one two ends other =
    absurd (other one.0 (subst (λ v. step v one.0) two one.1))
runs_stop_once step only (suc m) (suc n) x y z one two ends other =
    let same : one.0 ≡ two.0 = only x one.0 two.0 one.1 two.1 in
    let more = runs_stop_once step only m n two.0 y z (subst (λ v. Reaches step m v y) same one.2) two.2 ends other in
    (ap suc more.0, more.1)

-- a run of one step is a run of another that it implies
pub runs_mapped : {A : Type 0} (step other : A → A → Type 0) → ((a b : A) → step a b → other a b) → (n : ℕ) (x y : A)
    → Reaches step n x y → Reaches other n x y
runs_mapped step other f zero x y run = run
runs_mapped step other f (suc n) x y run = (run.0, f x run.0 run.1, runs_mapped step other f n run.0 y run.2)
