-- A machine that is stuck is stuck at one read, or no quadruple leaves its state.
use Rattle.std.specs.Prelude.{◌≡◌, ◌≢◌, ℕ, ◌<◌, ◌≤◌, Some, refl, ◌⊎◌}
use Rattle.std.proofs.Common.{zero, suc, arith, sym, subst, inl, inr}
use Rattle.std.proofs.lemmas.Bool.{cases_lt}
use Rattle.std.proofs.lemmas.Bool.Decides.{eqb_tells}
use Rattle.bn_lists.specs.Lists.{nth, HasNone}
use Rattle.bn_lists.proofs.ListLemmas.{first_or_none}
use Rattle.bn_machine.specs.Tape.{Tape, scanned}
use Rattle.bn_quad.specs.Quadruples.{Deed, Rewrite, Move, Rule, Configuration, Quadruples, AppliesTo, DeedApplies}
use Rattle.bn_quad.specs.Quadruples.{HasNoRule}
use Rattle.bn_network.specs.Controls.{IsNotLeft}
use Rattle.bn_network.specs.Networks.{IsTape}
use Rattle.bn_network_laws.specs.Ends.{tape_of}
use Rattle.bn_network_laws.specs.Stops.{DeedReads, deed_at, AdmitsBefore, IsStuckAtRead}
use Rattle.bn_network_laws.specs.StopLaws.{StopsAreThere, StopsAreStuck, StopsAreOne}

-- a tape is as a deed wants it, or it isn't
applies_or : (d : Deed) (x : Tape) → DeedApplies d x ⊎ (DeedApplies d x → ⊥)
applies_or (Rewrite read written) x =
    elim (eqb_tells (scanned x) read) [ inl same ↦ inl same.1 | inr other ↦ inr other.1 ]
applies_or (Move s) x = inl tt

-- both, or not both
both_or : {A B : Type 0} → A ⊎ (A → ⊥) → B ⊎ (B → ⊥) → (A × B) ⊎ (A × B → ⊥)
both_or (inl a) (inl b) = inl (a, b)
both_or (inl a) (inr b) = inr (λ h. b h.1)
both_or (inr a) b = inr (λ h. a h.0)

-- the tapes before one are as a quadruple wants them, or not
before_or : (r : Rule ℕ) (c : Configuration ℕ) (t : ℕ) → AdmitsBefore r c t ⊎ (AdmitsBefore r c t → ⊥)
before_or r c zero = inl tt
before_or r c (suc zero) = inl tt
before_or r c (suc (suc zero)) = applies_or r.one c.one
before_or r c (suc (suc (suc t))) = both_or (applies_or r.one c.one) (applies_or r.two c.two)

-- a quadruple leaves the state and wants the tapes up to this one as they are
record Admits (c : Configuration ℕ) (t : ℕ) (r : Rule ℕ) : Type 0 where
  from : r.from ≡ c.state
  before : AdmitsBefore r c t
  here : DeedApplies (deed_at r t) (tape_of c t)

admits_or : (c : Configuration ℕ) (t : ℕ) (r : Rule ℕ) → Admits c t r ⊎ (Admits c t r → ⊥)
admits_or c t r = by (eqb_tells r.from c.state) (before_or r c t) (applies_or (deed_at r t) (tape_of c t))
  where
    by : {A B : Type 0} → (A × (r.from ≡ c.state)) ⊎ (B × (r.from ≢ c.state))
        → AdmitsBefore r c t ⊎ (AdmitsBefore r c t → ⊥)
        → DeedApplies (deed_at r t) (tape_of c t) ⊎ (DeedApplies (deed_at r t) (tape_of c t) → ⊥)
        → Admits c t r ⊎ (Admits c t r → ⊥)
    by (inr other) before here = inr (λ h. other.1 h.from)
    by (inl same) (inr other) here = inr (λ h. other h.before)
    by (inl same) (inl before) (inr other) = inr (λ h. other h.here)
    by (inl same) (inl before) (inl here) = inl (record { from = same.1; before = before; here = here })

module _ (m : Quadruples) (c : Configuration ℕ) (stuck : HasNoRule m.rules c) where
  abbrev Found : Type 0
  Found = IsNotLeft m c.state ⊎ ((t : ℕ) × IsStuckAtRead m c t)

  -- at a read that no quadruple admits
  stuck_at : (t : ℕ) → IsTape t → (n : ℕ) (r : Rule ℕ) → nth m.rules n ≡ Some r → r.from ≡ c.state → AdmitsBefore r c t
      → DeedReads (deed_at r t)
      → HasNone (Admits c t) m.rules → Found
  stuck_at t tape n r stands from before reads none = inr (
    t,
    record {
      tape = tape;
      number = n;
      rule = r;
      stands = stands;
      from = from;
      before = before;
      reads_it = reads;
      none = λ i x e f b h. none.none i x e (record { from = f; before = b; here = h });
    },
  )

  -- tape 3
  at_three : (n : ℕ) (r : Rule ℕ) → nth m.rules n ≡ Some r → r.from ≡ c.state → DeedApplies r.one c.one
      → DeedApplies r.two c.two → Found
  at_three n r stands from one two = by_deed r.three refl
    where
      by_deed : (d : Deed) → r.three ≡ d → Found
      by_deed (Move s) is = absurd
          (stuck.none n r stands (record {
            from = sym from;
            one = one;
            two = two;
            three = subst (λ d. DeedApplies d c.three) (sym is) tt;
          }))
      by_deed (Rewrite a w) is = elim (first_or_none (Admits c 3) (admits_or c 3) m.rules) [
        | inl h ↦ absurd (stuck.none h.0 h.1 h.2.stands
            (record {
              from = sym h.2.holds.from;
              one = h.2.holds.before.0;
              two = h.2.holds.before.1;
              three = h.2.holds.here;
            }))
        | inr none ↦ stuck_at 3 (record { low = omega arith; high = omega arith }) n r stands from (one, two)
            (subst DeedReads (sym is) tt) none
      ]

  -- tape 2
  at_two : (n : ℕ) (r : Rule ℕ) → nth m.rules n ≡ Some r → r.from ≡ c.state → DeedApplies r.one c.one → Found
  at_two n r stands from one = by_deed r.two refl
    where
      by_deed : (d : Deed) → r.two ≡ d → Found
      by_deed (Move s) is = at_three n r stands from one (subst (λ d. DeedApplies d c.two) (sym is) tt)
      by_deed (Rewrite a w) is = elim (first_or_none (Admits c 2) (admits_or c 2) m.rules) [
        | inl h ↦ at_three h.0 h.1 h.2.stands h.2.holds.from h.2.holds.before h.2.holds.here
        | inr none ↦ stuck_at 2 (record { low = omega arith; high = omega arith }) n r stands from one
            (subst DeedReads (sym is) tt) none
      ]

  -- tape 1
  at_one : (n : ℕ) (r : Rule ℕ) → nth m.rules n ≡ Some r → r.from ≡ c.state → Found
  at_one n r stands from = by_deed r.one refl
    where
      by_deed : (d : Deed) → r.one ≡ d → Found
      by_deed (Move s) is = at_two n r stands from (subst (λ d. DeedApplies d c.one) (sym is) tt)
      by_deed (Rewrite a w) is = elim (first_or_none (Admits c 1) (admits_or c 1) m.rules) [
        | inl h ↦ at_two h.0 h.1 h.2.stands h.2.holds.from h.2.holds.here
        | inr none ↦ stuck_at 1 (record { low = omega arith; high = omega arith }) n r stands from tt
            (subst DeedReads (sym is) tt) none
      ]

  found : Found
  found = elim (first_or_none (λ (r : Rule ℕ). r.from ≡ c.state) leaves_or m.rules) [
    | inl h ↦ at_one h.0 h.1 h.2.stands h.2.holds
    | inr none ↦ inl (record { none = λ n r e f. none.none n r e f })
  ]
    where
      leaves_or : (r : Rule ℕ) → (r.from ≡ c.state) ⊎ (r.from ≡ c.state → ⊥)
      leaves_or r = elim (eqb_tells r.from c.state) [ inl same ↦ inl same.1 | inr other ↦ inr other.1 ]

pub stops-there : StopsAreThere
stops-there m c stuck = found m c stuck

-- ---- a stop is a stop, and one

-- a quadruple that applies wants the tapes up to each one as they are
applied_to : (r : Rule ℕ) (c : Configuration ℕ) (t : ℕ) → IsTape t → AppliesTo r c
    → AdmitsBefore r c t × DeedApplies (deed_at r t) (tape_of c t)
applied_to r c zero tape h = absurd (let low = tape.low in omega arith)
applied_to r c (suc zero) tape h = (tt, h.one)
applied_to r c (suc (suc zero)) tape h = (h.one, h.two)
applied_to r c (suc (suc (suc zero))) tape h = ((h.one, h.two), h.three)
applied_to r c (suc (suc (suc (suc t)))) tape h = absurd (let high = tape.high in omega arith)

pub stops-stuck : StopsAreStuck
stops-stuck m c = (
  λ left. record { none = λ n r at applies. left.none n r at (sym applies.from) },
  λ t stop. record {
    none = λ n r at applies. let all = applied_to r c t stop.tape applies in
        stop.none n r at (sym applies.from) all.0 all.1;
  },
)

-- one that wants the tapes before a later one as they are wants this one so
admitted_to : (r : Rule ℕ) (c : Configuration ℕ) (t u : ℕ) → IsTape t → IsTape u → t < u → AdmitsBefore r c u
    → AdmitsBefore r c t × DeedApplies (deed_at r t) (tape_of c t)
admitted_to r c zero u here there below h = absurd (let low = here.low in omega arith)
admitted_to r c (suc zero) zero here there below h = absurd (omega arith)
admitted_to r c (suc zero) (suc zero) here there below h = absurd (omega arith)
admitted_to r c (suc zero) (suc (suc zero)) here there below h = (tt, h)
admitted_to r c (suc zero) (suc (suc (suc u))) here there below h = (tt, h.0)
admitted_to r c (suc (suc zero)) zero here there below h = absurd (omega arith)
admitted_to r c (suc (suc zero)) (suc zero) here there below h = absurd (omega arith)
admitted_to r c (suc (suc zero)) (suc (suc zero)) here there below h = absurd (omega arith)
admitted_to r c (suc (suc zero)) (suc (suc (suc u))) here there below h = (h.0, h.1)
admitted_to r c (suc (suc (suc t))) u here there below h = absurd (let high = there.high in omega arith)

not_before : (m : Quadruples) (c : Configuration ℕ) (t u : ℕ) → IsStuckAtRead m c t → IsStuckAtRead m c u → t < u → ⊥
not_before m c t u a b below =
    let all = admitted_to b.rule c t u a.tape b.tape below b.before in
    a.none b.number b.rule b.stands b.from all.0 all.1

pub stops-one : StopsAreOne
stops-one m c t u a b = by (cases_lt t u) (cases_lt u t)
  where
    by : (t < u) ⊎ (u ≤ t) → (u < t) ⊎ (t ≤ u) → t ≡ u
    by (inl below) k = absurd (not_before m c t u a b below)
    by (inr h) (inl below) = absurd (not_before m c u t b a below)
    by (inr h) (inr k) = omega arith
