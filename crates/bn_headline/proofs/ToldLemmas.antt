-- The states of each quadruple of Bennett's list tell of it.
use Rattle.std.proofs.Common.{◌≡◌, ◌≢◌, inl, inr, Bool, true, false, ◌==◌, ◌||◌, ℕ, zero, suc, List, [], ◌∷◌, Some}
use Rattle.std.proofs.Common.{refl, ap, ◌∙◌, eq-eqb, slice_get}
use Rattle.std.specs.List.{list_any}
use Rattle.std.proofs.lemmas.Bool.Decides.{eqb_tells}
use Rattle.bn_machine.specs.Machine.{Program, start_of, final_of}
use Rattle.bn_lists.specs.Lists.{nth, IsIn}
use Rattle.bn_machine.specs.declared.quint.Quint.{Quint}
use Rattle.bn_quad.specs.Quadruples.{Rule}
use Rattle.bn_bennett_laws.specs.List.{bennett}
use Rattle.bn_bennett_laws.proofs.ListLemmas.{each_rule}
use Rattle.bn_bennett_laws.specs.Stages.{IsStandardMachine}
use Rattle.bn_bennett_laws.specs.declared.name.Name.{Name}
use Rattle.bn_headline.proofs.Told.{Tells, is_left, is_entered}

pub not_equal : (a b : ℕ) → a ≢ b → (a == b) ≡ false
not_equal a b h = elim (eqb_tells a b) [ inl same ↦ absurd (h same.1) | inr other ↦ other.0 ]

-- a list has an element that passes
pub any_at : {X : Type 0} (test : X → Bool) (xs : List X) (i : ℕ) (x : X) → slice_get xs i ≡ Some x → test x ≡ true
    → list_any test xs ≡ true
any_at test [] i x e h = absurd (cc)
any_at test (y ∷ xs) zero x e h = let same : y ≡ x = cc in let here : test y ≡ true = ap test same ∙ h in rw here refl
any_at test (y ∷ xs) (suc i) x e h = let more = any_at test xs i x e h in by (test y) more
  where
    by : (b : Bool) → list_any test xs ≡ true → (b || list_any test xs) ≡ true
    by true e = refl
    by false e = e

-- and where one passes, there is it
pub any_found : {X : Type 0} (test : X → Bool) (xs : List X) → list_any test xs ≡ true
    → (i : ℕ) × (x : X) × (slice_get xs i ≡ Some x) × (test x ≡ true)
any_found test [] h = absurd (cc)
any_found test (y ∷ xs) h = by (test y) refl (any_found test xs) h
  where
    by : (b : Bool) → test y ≡ b → (list_any test xs ≡ true → (i : ℕ) × (x : _) × (slice_get xs i ≡ Some x)
        × (test x ≡ true)) → (b || list_any test xs) ≡ true → (i : ℕ) × (x : _) × (slice_get (y ∷ xs) i ≡ Some x)
        × (test x ≡ true)
    by true e more h = (0, y, refl, e)
    by false e more h = let found = more h in (suc found.0, found.1, found.2, found.3)

any_nth : (test : Quint → Bool) (qs : List Quint) (m : ℕ) (q : Quint) → nth qs m ≡ Some q → test q ≡ true
    → list_any test qs ≡ true
any_nth test qs zero q e h = absurd (cc)
any_nth test qs (suc i) q e h = any_at test qs i q e h

module _ (p : Program) (standard : IsStandardMachine p) where
  pub next_not_start : (m : ℕ) (q : Quint) → nth p.quints m ≡ Some q → q.next ≢ start_of p.quints
  next_not_start m q here e = standard.standard.lone_start.none m (record { quint = q; stands = here; names = inl e })

  pub state_not_final : (m : ℕ) (q : Quint) → nth p.quints m ≡ Some q → q.state ≢ final_of p.quints
  state_not_final m q here e = standard.standard.lone_final.none m (record { quint = q; stands = here; names = inl e })

  pub left_is : (m : ℕ) (q : Quint) → nth p.quints m ≡ Some q → is_left p.quints q.state ≡ true
  left_is m q here = any_nth (λ v. v.state == q.state) p.quints m q here (eq-eqb q.state q.state refl)

  pub entered_is : (m : ℕ) (q : Quint) → nth p.quints m ≡ Some q → is_entered p.quints q.next ≡ true
  entered_is m q here = any_nth (λ v. v.next == q.next) p.quints m q here (eq-eqb q.next q.next refl)

  pub rules_tell : (r : Rule Name) → IsIn (bennett p) r → Tells p r
  rules_tell =
      let final = eq-eqb (final_of p.quints) (final_of p.quints) refl in
      each_rule (Tells p) p
      (λ m q e. let other = not_equal q.state (final_of p.quints) (state_not_final m q e) in record
      { before = (refl, rw other refl); after = (refl, refl, refl) })
      (λ m q e. record { before = (refl, refl); after = (entered_is m q e, refl, refl) })
      (record { before = (refl, rw final refl); after = (refl, refl, refl) })
      (record { before = refl; after = tt })
      (λ x low high. record { before = (refl, refl); after = (refl, refl, refl) })
      (record { before = (refl, refl); after = (refl, refl, refl) })
      (record { before = refl; after = tt })
      (λ x low high. record { before = (refl, refl); after = (refl, refl, refl) })
      (record { before = (refl, refl); after = (rw final refl, refl, rw final refl) })
      (λ m q e. let other = not_equal q.next (start_of p.quints) (next_not_start m q e) in record
      { before = (rw other refl, refl); after = (refl, refl, refl) })
      (λ m q e. let other = not_equal q.state (final_of p.quints) (state_not_final m q e) in record
      { before = (refl, refl); after = (rw other (left_is m q e), refl, rw other refl) })
