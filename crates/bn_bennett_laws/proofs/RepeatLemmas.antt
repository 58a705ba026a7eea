-- Lists without repeats: how long they are.
use Rattle.std.specs.Prelude.{◌≡◌, ◌≢◌, ℕ, zero, suc, ◌+◌, ◌<◌, ◌≤◌, List, [], ◌∷◌, ◌++◌, length, Some, slice_get}
use Rattle.std.proofs.Common.{ap, ◌∙◌, subst, arith, inl, inr, length-append}
use Rattle.bn_lists.specs.Lists.{nth, IsIn}
use Rattle.bn_bennett_laws.proofs.Apart.{Apart, apart_from_places}
use Rattle.bn_bennett_laws.proofs.MembershipLemmas.{in_head, in_tail, in_cases, not_in_empty, in_left, in_right}
use Rattle.bn_bennett_laws.proofs.MembershipLemmas.{in_append}

module _ {X : Type 0} where
  -- where an entry of a list stands, what is before it and what is after it
  split_at : (xs : List X) (x : X) → IsIn xs x → (before : List X) × (after : List X) × (xs ≡ before ++ x ∷ after)
  split_at [] x h = absurd (not_in_empty x h)
  split_at (y ∷ xs) x h =
      elim (in_cases y x xs h) [
        | inl same ↦ ([], xs, ap (λ z. z ∷ xs) same)
        | inr further ↦ let rest = split_at xs x further in (y ∷ rest.0, rest.1, ap (λ zs. y ∷ zs) rest.2)
      ]

  -- another entry is before it or after it
  beside : (x y : X) (before after : List X) → x ≢ y → IsIn (before ++ x ∷ after) y → IsIn (before ++ after) y
  beside x y before after other h =
      elim (in_append before (x ∷ after) y h) [
        | inl left ↦ in_left before after y left
        | inr right ↦ elim (in_cases x y after right) [
          | inl same ↦ absurd (other same)
          | inr further ↦ in_right before after y further
        ]
      ]

  -- a list without repeats, all of whose entries stand in another list, isn't longer
  pub fewer_in : (xs ys : List X) → Apart (λ x y. x ≢ y) xs → ((x : X) → IsIn xs x → IsIn ys x) → length xs ≤ length ys
  fewer_in [] ys apart within = omega arith
  fewer_in (x ∷ xs) ys apart within =
      let parts = split_at ys x (within x (in_head x xs)) in
      let rest = fewer_in xs (parts.0 ++ parts.1) apart.1 (λ y h. beside x y parts.0 parts.1 (apart.0 y h)
      (subst (λ zs. IsIn zs y) parts.2 (within y (in_tail x y xs h)))) in
      let long : length ys ≡ length parts.0 + suc (length parts.1) =
      ap length parts.2 ∙ length-append parts.0 (x ∷ parts.1) in
      omega (arith, length-append parts.0 parts.1)

  -- two lists without repeats that have the same entries are equally long
  pub same_long : (xs ys : List X) → Apart (λ x y. x ≢ y) xs → Apart (λ x y. x ≢ y) ys
      → ((x : X) → IsIn xs x → IsIn ys x) → ((x : X) → IsIn ys x → IsIn xs x) → length xs ≡ length ys
  same_long xs ys a b forth back = let one = fewer_in xs ys a forth in let two =
      fewer_in ys xs b back in by_bounds (length xs) (length ys) one two
    where
      by_bounds : (m n : ℕ) → m ≤ n → n ≤ m → m ≡ n
      by_bounds m n h k = omega arith

  -- a list each of whose entries has one place has no repeats
  pub apart_by_places : (xs : List X) → ((m n : ℕ) (x : X) → slice_get xs m ≡ Some x → slice_get xs n ≡ Some x → m ≡ n)
      → Apart (λ x y. x ≢ y) xs
  apart_by_places xs one = apart_from_places (λ x y. x ≢ y) xs
      (λ i j v w low h k same. absurd (by_places i j v w low h k same))
    where
      by_places : (i j : ℕ) (v w : X) → i < j → nth xs i ≡ Some v → nth xs j ≡ Some w → v ≡ w → ⊥
      by_places zero j v w low h k same = cc
      by_places (suc i) zero v w low h k same = absurd (omega arith)
      by_places (suc i) (suc j) v w low h k same = let equal : i ≡ j =
          one i j w (h ∙ ap Some same) k in absurd (omega arith)
