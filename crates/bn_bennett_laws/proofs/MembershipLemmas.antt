-- What stands in a list.
use Rattle.std.specs.Prelude.{◌≡◌, ℕ, zero, suc, ◌-◌, ◌<◌, ◌⊎◌, List, [], ◌∷◌, ◌++◌, length, map, reverse, Some}
use Rattle.std.specs.List.{flat_map}
use Rattle.std.proofs.Common.{refl, sym, ap, ◌∙◌, subst, arith, inl, inr, get_or}
use Rattle.std.proofs.lemmas.List.{length-reverse, get_or-reverse}
use Rattle.std.proofs.lemmas.Option.{slice_get_within, slice_get-get_or}
use Rattle.bn_lists.specs.Lists.{nth, IsIn}

module _ {X : Type 0} where
  pub in_head : (x : X) (xs : List X) → IsIn (x ∷ xs) x
  in_head x xs = record { place = 1; stands = refl }

  pub in_tail : (y x : X) (xs : List X) → IsIn xs x → IsIn (y ∷ xs) x
  in_tail y x xs h = later h.place h.stands
    where
      later : (n : ℕ) → nth xs n ≡ Some x → IsIn (y ∷ xs) x
      later zero e = absurd (cc)
      later (suc i) e = record { place = suc (suc i); stands = e }

  -- what stands first, or further on
  pub in_cases : (y x : X) (xs : List X) → IsIn (y ∷ xs) x → (y ≡ x) ⊎ IsIn xs x
  in_cases y x xs h = by_place h.place h.stands
    where
      by_place : (n : ℕ) → nth (y ∷ xs) n ≡ Some x → (y ≡ x) ⊎ IsIn xs x
      by_place zero e = absurd (cc)
      by_place (suc zero) e = inl (cc)
      by_place (suc (suc i)) e = inr (record { place = suc i; stands = e })

  pub not_in_empty : (x : X) → IsIn [] x → ⊥
  not_in_empty x h = none h.place h.stands
    where
      none : (n : ℕ) → nth {X = X} [] n ≡ Some x → ⊥
      none zero e = cc
      none (suc i) e = cc

  -- what holds of one entry, or of two, holds of each entry of their list
  pub each_of_one : (P : X → Type 0) (a : X) → P a → (x : X) → IsIn (a ∷ []) x → P x
  each_of_one P a one x h = elim (in_cases a x [] h) [
    | inl same ↦ subst P same one
    | inr none ↦ absurd (not_in_empty x none)
  ]

  pub each_of_two : (P : X → Type 0) (a b : X) → P a → P b → (x : X) → IsIn (a ∷ b ∷ []) x → P x
  each_of_two P a b one two x h = elim (in_cases a x (b ∷ []) h)
      [ inl same ↦ subst P same one | inr further ↦ each_of_one P b two x further ]

  pub in_left : (xs ys : List X) (x : X) → IsIn xs x → IsIn (xs ++ ys) x
  in_left [] ys x h = absurd (not_in_empty x h)
  in_left (y ∷ xs) ys x h = elim (in_cases y x xs h) [
    | inl same ↦ subst (IsIn (y ∷ (xs ++ ys))) same (in_head y (xs ++ ys))
    | inr further ↦ in_tail y x (xs ++ ys) (in_left xs ys x further)
  ]

  pub in_right : (xs ys : List X) (x : X) → IsIn ys x → IsIn (xs ++ ys) x
  in_right [] ys x h = h
  in_right (y ∷ xs) ys x h = in_tail y x (xs ++ ys) (in_right xs ys x h)

  -- what stands in two lists joined stands in one of them
  pub in_append : (xs ys : List X) (x : X) → IsIn (xs ++ ys) x → IsIn xs x ⊎ IsIn ys x
  in_append [] ys x h = inr h
  in_append (y ∷ xs) ys x h =
      elim (in_cases y x (xs ++ ys) h) [
        | inl same ↦ inl (subst (IsIn (y ∷ xs)) same (in_head y xs))
        | inr further ↦ elim (in_append xs ys x further) [
          | inl left ↦ inl (in_tail y x xs left)
          | inr right ↦ inr right
        ]
      ]

  pub in_reverse : (xs : List X) (x : X) → IsIn xs x → IsIn (reverse xs) x
  in_reverse xs x h = by_place h.place h.stands
    where
      some_once : {a b : X} → Some a ≡ Some b → a ≡ b
      some_once e = cc

      by_place : (n : ℕ) → nth xs n ≡ Some x → IsIn (reverse xs) x
      by_place zero e = absurd (cc)
      by_place (suc k) e =
          let inside : k < length xs = slice_get_within xs k x e in
          let j : ℕ = length xs - 1 - k in
          let low : j < length xs = omega arith in
          let low_reversed : j < length (reverse xs) = omega (arith, length-reverse xs) in
          let mirrored : length xs - 1 - j ≡ k = omega arith in
          let found : get_or xs k x ≡ x = some_once (sym (slice_get-get_or xs k x inside) ∙ e) in
          record {
            place = suc j;
            stands = slice_get-get_or (reverse xs) j x low_reversed
                ∙ ap Some (get_or-reverse xs j x low ∙ ap (λ i. get_or xs i x) mirrored ∙ found);
          }

module _ {X Y : Type 0} where
  pub in_map : (f : X → Y) (xs : List X) (x : X) → IsIn xs x → IsIn (map f xs) (f x)
  in_map f [] x h = absurd (not_in_empty x h)
  in_map f (y ∷ xs) x h = elim (in_cases y x xs h) [
    | inl same ↦ subst (λ z. IsIn (f y ∷ map f xs) (f z)) same (in_head (f y) (map f xs))
    | inr further ↦ in_tail (f y) (f x) (map f xs) (in_map f xs x further)
  ]

  pub from_map : (f : X → Y) (xs : List X) (y : Y) → IsIn (map f xs) y → (x : X) × IsIn xs x × (f x ≡ y)
  from_map f [] y h = absurd (not_in_empty y h)
  from_map f (x ∷ xs) y h =
      elim (in_cases (f x) y (map f xs) h) [
        | inl same ↦ (x, in_head x xs, same)
        | inr further ↦ let found = from_map f xs y further in (found.0, in_tail x found.0 xs found.1, found.2)
      ]

  pub in_flat_map : (f : X → List Y) (xs : List X) (x : X) (y : Y) → IsIn xs x → IsIn (f x) y → IsIn (flat_map f xs) y
  in_flat_map f [] x y h k = absurd (not_in_empty x h)
  in_flat_map f (w ∷ xs) x y h k =
      elim (in_cases w x xs h) [
        | inl same ↦ in_left (f w) (flat_map f xs) y (subst (λ z. IsIn (f z) y) (sym same) k)
        | inr further ↦ in_right (f w) (flat_map f xs) y (in_flat_map f xs x y further k)
      ]

  pub from_flat_map : (f : X → List Y) (xs : List X) (y : Y) → IsIn (flat_map f xs) y
      → (x : X) × IsIn xs x × IsIn (f x) y
  from_flat_map f [] y h = absurd (not_in_empty y h)
  from_flat_map f (x ∷ xs) y h =
      elim (in_append (f x) (flat_map f xs) y h) [
        | inl here ↦ (x, in_head x xs, here)
        | inr further ↦ let found = from_flat_map f xs y further in (found.0, in_tail x found.0 xs found.1, found.2)
      ]
