-- Lists without repeats: each list has one of its entries.
use Rattle.std.specs.Prelude.{◌≡◌, ◌≢◌, ℕ, zero, suc, ◌<◌, ◌≤◌, ◌⊎◌, List, [], ◌∷◌, Some, slice_get}
use Rattle.std.proofs.Common.{refl, sym, subst, arith, inl, inr}
use Rattle.std.proofs.lemmas.Bool.{cases_lt}
use Rattle.bn_lists.specs.Lists.{nth, IsIn}
use Rattle.bn_quad.specs.Quadruples.{Rule}
use Rattle.bn_lists.specs.Lists.{IsIn}
use Rattle.bn_bennett_laws.proofs.MembershipLemmas.{in_head, in_tail, in_cases, not_in_empty}
use Rattle.bn_bennett_laws.specs.Names.{states_in, NumbersStates}
use Rattle.bn_bennett_laws.proofs.RepeatLemmas.{apart_by_places}
use Rattle.bn_bennett_laws.proofs.Apart.{Apart, apart_places}

-- the entries of a list, each once
pub record Distinct {X : Type 0} (xs : List X) : Type 0 where
  pub list : List X
  pub apart : Apart (λ x y. x ≢ y) list
  pub each : (x : X) → IsIn xs x → IsIn list x
  pub only : (x : X) → IsIn list x → IsIn xs x

module _ {X : Type 0} (told_apart : (a b : X) → (a ≡ b) ⊎ (a ≢ b)) where
  in_or_not : (xs : List X) (x : X) → IsIn xs x ⊎ (IsIn xs x → ⊥)
  in_or_not [] x = inr (λ h. not_in_empty x h)
  in_or_not (y ∷ xs) x =
      elim (told_apart y x) [
        | inl same ↦ inl (subst (IsIn (y ∷ xs)) same (in_head y xs))
        | inr other ↦ elim (in_or_not xs x) [
          | inl further ↦ inl (in_tail y x xs further)
          | inr none ↦ inr (λ h. elim (in_cases y x xs h) [ inl same ↦ other same | inr further ↦ none further ])
        ]
      ]

  one_more : (x : X) (xs : List X) (d : Distinct xs) → IsIn d.list x ⊎ (IsIn d.list x → ⊥) → Distinct (x ∷ xs)
  one_more x xs d (inl there) = record {
    list = d.list;
    apart = d.apart;
    each = λ y h. elim (in_cases x y xs h) [
      | inl same ↦ subst (IsIn d.list) same there
      | inr further ↦ d.each y further
    ];
    only = λ y h. in_tail x y xs (d.only y h);
  }
  one_more x xs d (inr new) = record {
    list = x ∷ d.list;
    apart = (λ y h same. new (subst (IsIn d.list) (sym same) h), d.apart);
    each = λ y h. elim (in_cases x y xs h) [
      | inl same ↦ subst (IsIn (x ∷ d.list)) same (in_head x d.list)
      | inr further ↦ in_tail x y d.list (d.each y further)
    ];
    only = λ y h. elim (in_cases x y d.list h) [
      | inl same ↦ subst (IsIn (x ∷ xs)) same (in_head x xs)
      | inr further ↦ in_tail x y xs (d.only y further)
    ];
  }

  pub distinct : (xs : List X) → Distinct xs
  distinct [] = record { list = []; apart = tt; each = λ x h. h; only = λ x h. h }
  distinct (x ∷ xs) = let d = distinct xs in one_more x xs d (in_or_not d.list x)

-- ---- states by number

module _ {Q : Type 0} (rs : List (Rule Q)) where
  -- the states of the rules, each once, number them
  pub distinct_numbers : (d : Distinct (states_in rs)) → NumbersStates rs d.list
  distinct_numbers d = record {
    each = λ q h. let there = d.each q h in by_place q there.place there.stands;
    only = λ n q e. d.only q (record { place = suc n; stands = e });
    apart = λ m n q e f. by_order m n q e f (cases_lt m n) (cases_lt n m);
  }
    where
      by_place : (q : Q) (k : ℕ) → nth d.list k ≡ Some q → (n : ℕ) × (slice_get d.list n ≡ Some q)
      by_place q zero e = absurd (cc)
      by_place q (suc i) e = (i, e)

      by_order : (m n : ℕ) (q : Q) → slice_get d.list m ≡ Some q → slice_get d.list n ≡ Some q → (m < n) ⊎ (n ≤ m)
          → (n < m) ⊎ (m ≤ n) → m ≡ n
      by_order m n q e f (inl low) other = absurd (apart_places (λ x y. x ≢ y) d.list (suc m) (suc n) q q d.apart
          (omega arith) e f refl)
      by_order m n q e f (inr high) (inl low) = absurd (apart_places (λ x y. x ≢ y) d.list (suc n) (suc m) q q d.apart
          (omega arith) f e refl)
      by_order m n q e f (inr high) (inr low) = omega arith

  -- and a numbering has no repeats
  pub numbers_apart : (order : List Q) → NumbersStates rs order → Apart (λ x y. x ≢ y) order
  numbers_apart order numbers = apart_by_places order numbers.apart

  pub numbers_in : (order : List Q) → NumbersStates rs order → (q : Q) → IsIn (states_in rs) q → IsIn order q
  numbers_in order numbers q h = let found = numbers.each q h in record { place = suc found.0; stands = found.1 }

  pub in_numbers : (order : List Q) → NumbersStates rs order → (q : Q) → IsIn order q → IsIn (states_in rs) q
  in_numbers order numbers q h = by_place h.place h.stands
    where
      by_place : (k : ℕ) → nth order k ≡ Some q → IsIn (states_in rs) q
      by_place zero e = absurd (cc)
      by_place (suc i) e = numbers.only i q e
