-- Lists without one of their entries.
use Rattle.std.specs.Prelude.{◌≡◌, ◌≢◌, ℕ, zero, suc, ◌+◌, ◌<◌, ◌≤◌, List, [], ◌∷◌, ◌++◌, length, take, drop, Some}
use Rattle.std.specs.Prelude.{slice_get}
use Rattle.std.proofs.Common.{refl, sym, ap, ◌∙◌, subst, arith, inl, inr, get_or, add-one}
use Rattle.std.proofs.lemmas.Option.{same_Some}
use Rattle.bn_lists.specs.Lists.{IsIn}
use Rattle.bn_bennett_laws.proofs.MembershipLemmas.{in_head, in_tail, in_cases, not_in_empty}
use Rattle.bn_bennett_laws.proofs.Apart.{Apart}

-- the list without the entry at k, counted from 0
abbrev pub without : {X : Type 0} → ℕ → List X → List X
without k [] = []
without zero (x ∷ xs) = xs
without (suc k) (x ∷ xs) = x ∷ without k xs

module _ {X : Type 0} where
  without_suc : (k : ℕ) (xs : List X) → take k xs ++ drop (suc k) xs ≡ without k xs
  without_suc zero [] = refl
  without_suc (suc k) [] = refl
  without_suc zero (x ∷ xs) = refl
  without_suc (suc k) (x ∷ xs) = ap (λ ys. x ∷ ys) (without_suc k xs)

  pub without_is : (k : ℕ) (xs : List X) → take k xs ++ drop (k + 1) xs ≡ without k xs
  without_is k xs = ap (λ n. take k xs ++ drop n xs) (add-one k) ∙ without_suc k xs

  pub length-without : (k : ℕ) (xs : List X) → k < length xs → suc (length (without k xs)) ≡ length xs
  length-without k [] low = absurd (omega arith)
  length-without zero (x ∷ xs) low = refl
  length-without (suc k) (x ∷ xs) low = ap suc (length-without k xs (omega arith))

  -- ---- what stands in it

  pub in_without : (k : ℕ) (xs : List X) (y : X) → IsIn (without k xs) y → IsIn xs y
  in_without k [] y h = h
  in_without zero (x ∷ xs) y h = in_tail x y xs h
  in_without (suc k) (x ∷ xs) y h =
      elim (in_cases x y (without k xs) h) [
        | inl same ↦ subst (IsIn (x ∷ xs)) same (in_head x xs)
        | inr further ↦ in_tail x y xs (in_without k xs y further)
      ]

  -- any other entry stays
  pub others_stay : (k : ℕ) (xs : List X) (y z : X) → slice_get xs k ≡ Some z → y ≢ z → IsIn xs y
      → IsIn (without k xs) y
  others_stay k [] y z at other h = h
  others_stay zero (x ∷ xs) y z at other h =
      elim (in_cases x y xs h) [ inl same ↦ absurd (other (sym same ∙ same_Some x z at)) | inr further ↦ further ]
  others_stay (suc k) (x ∷ xs) y z at other h =
      elim (in_cases x y xs h) [
        | inl same ↦ subst (IsIn (x ∷ without k xs)) same (in_head x (without k xs))
        | inr further ↦ in_tail x y (without k xs) (others_stay k xs y z at other further)
      ]

  -- without repeats, that one is gone
  pub left_out : (k : ℕ) (xs : List X) (y z : X) → Apart (λ v w. v ≢ w) xs → slice_get xs k ≡ Some z
      → IsIn (without k xs) y → y ≢ z
  left_out k [] y z apart at h = absurd (not_in_empty y h)
  left_out zero (x ∷ xs) y z apart at h = λ same. apart.0 y h (same_Some x z at ∙ sym same)
  left_out (suc k) (x ∷ xs) y z apart at h =
      elim (in_cases x y (without k xs) h) [
        | inl same ↦ λ is. apart.0 z (record { place = suc k; stands = at }) (same ∙ is)
        | inr further ↦ left_out k xs y z apart.1 at further
      ]

  pub apart_without : (R : X → X → Type 0) (k : ℕ) (xs : List X) → Apart R xs → Apart R (without k xs)
  apart_without R k [] apart = tt
  apart_without R zero (x ∷ xs) apart = apart.1
  apart_without R (suc k) (x ∷ xs) apart = (λ y h. apart.0 y (in_without k xs y h), apart_without R k xs apart.1)

  -- ---- places

  pub place_before : (k j : ℕ) (xs : List X) (d : X) → j < k → get_or (without k xs) j d ≡ get_or xs j d
  place_before k j [] d low = refl
  place_before zero j (x ∷ xs) d low = absurd (omega arith)
  place_before (suc k) zero (x ∷ xs) d low = refl
  place_before (suc k) (suc j) (x ∷ xs) d low = place_before k j xs d (omega arith)

  pub place_behind : (k j : ℕ) (xs : List X) (d : X) → k ≤ j → get_or (without k xs) j d ≡ get_or xs (suc j) d
  place_behind k j [] d low = refl
  place_behind zero j (x ∷ xs) d low = refl
  place_behind (suc k) zero (x ∷ xs) d low = absurd (omega arith)
  place_behind (suc k) (suc j) (x ∷ xs) d low = place_behind k j xs d (omega arith)
