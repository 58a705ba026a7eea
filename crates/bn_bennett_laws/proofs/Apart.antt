-- Lists in which each two entries, the earlier first, stand in a relation.
use Rattle.std.specs.Prelude.{◌≡◌, ◌≢◌, ℕ, zero, suc, ◌+◌, ◌*◌, ◌<◌, ◌≤◌, List, [], ◌∷◌, ◌++◌, length, map, reverse}
use Rattle.std.specs.Prelude.{Some, ⊤}
use Rattle.std.specs.List.{flat_map, range_with_len}
use Rattle.std.proofs.Common.{refl, sym, subst, arith, inl, inr}
use Rattle.std.proofs.lemmas.List.{reverse-append, reverse-reverse}
use Rattle.bn_lists.specs.Lists.{nth, IsIn}
use Rattle.bn_bennett_laws.proofs.MembershipLemmas.{in_head, in_tail, not_in_empty, in_append, in_reverse, in_cases}
use Rattle.bn_bennett_laws.proofs.MembershipLemmas.{from_map, from_flat_map, each_of_one, each_of_two}
use Rattle.bn_bennett_laws.proofs.ListLemmas.{from_range}

abbrev pub Apart : {X : Type 0} → (X → X → Type 0) → List X → Type 0
Apart R [] = ⊤
Apart {X} R (x ∷ xs) = ((y : X) → IsIn xs y → R x y) × Apart R xs

-- each entry of the first list with each of the second
abbrev pub Across : {X : Type 0} → (X → X → Type 0) → List X → List X → Type 0
Across {X} R xs ys = (x y : X) → IsIn xs x → IsIn ys y → R x y

module _ {X : Type 0} (R : X → X → Type 0) where
  pub apart_append : (xs ys : List X) → Apart R xs → Apart R ys → Across R xs ys → Apart R (xs ++ ys)
  apart_append [] ys a b across = b
  apart_append (x ∷ xs) ys a b across = (
    λ y h. elim (in_append xs ys y h) [ inl left ↦ a.0 y left | inr right ↦ across x y (in_head x xs) right ],
    apart_append xs ys a.1 b (λ v w h k. across v w (in_tail x v xs h) k),
  )

  pub apart_reverse : ((x y : X) → R x y → R y x) → (xs : List X) → Apart R xs → Apart R (reverse xs)
  apart_reverse turned [] a = tt
  apart_reverse turned (x ∷ xs) a =
      subst (Apart R) (sym (reverse-append (x ∷ []) xs))
      (apart_append (reverse xs) (x ∷ []) (apart_reverse turned xs a.1) (λ y h. absurd (not_in_empty y h), tt)
      (λ v w h k. elim (in_cases x w [] k) [
        | inl same ↦ subst (R v) same (turned x v (a.0 v (subst (λ ys. IsIn ys v) (reverse-reverse xs)
            (in_reverse (reverse xs) v h))))
        | inr none ↦ absurd (not_in_empty w none)
      ]))

  pub apart_one : (a : X) → Apart R (a ∷ [])
  apart_one a = (λ y k. absurd (not_in_empty y k), tt)

  pub apart_two : (a b : X) → R a b → Apart R (a ∷ b ∷ [])
  apart_two a b h = (λ y k. each_of_one (R a) b h y k, apart_one b)

  pub across_append : (xs ys zs : List X) → Across R xs zs → Across R ys zs → Across R (xs ++ ys) zs
  across_append xs ys zs a b = λ v w h k. elim (in_append xs ys v h)
      [ inl left ↦ a v w left k | inr right ↦ b v w right k ]

  pub across_two_two : (a b c d : X) → R a c → R a d → R b c → R b d → Across R (a ∷ b ∷ []) (c ∷ d ∷ [])
  across_two_two a b c d ac ad bc bd = λ v w h k. each_of_two (λ r. R r w) a b (each_of_two (R a) c d ac ad w k)
      (each_of_two (R b) c d bc bd w k) v h

  -- entries at two places
  pub apart_places : (xs : List X) (i j : ℕ) (x y : X) → Apart R xs → i < j → nth xs i ≡ Some x → nth xs j ≡ Some y
      → R x y
  apart_places xs zero j x y a low e f = absurd (cc)
  apart_places xs (suc i) zero x y a low e f = absurd (omega arith)
  apart_places [] (suc i) (suc j) x y a low e f = absurd (cc)
  apart_places (v ∷ xs) (suc zero) (suc zero) x y a low e f = absurd (omega arith)
  apart_places (v ∷ xs) (suc zero) (suc (suc j)) x y a low e f = let same : v ≡ x =
      cc in subst (λ w. R w y) same (a.0 y (record { place = suc j; stands = f }))
  apart_places (v ∷ xs) (suc (suc i)) (suc zero) x y a low e f = absurd (omega arith)
  apart_places (v ∷ xs) (suc (suc i)) (suc (suc j)) x y a low e f =
      apart_places xs (suc i) (suc j) x y a.1 (omega arith) e f

  pub apart_from_places : (xs : List X) → ((i j : ℕ) (x y : X) → i < j → nth xs i ≡ Some x → nth xs j ≡ Some y → R x y)
      → Apart R xs
  apart_from_places [] h = tt
  apart_from_places (x ∷ xs) h = (λ y k. first y k.place k.stands, apart_from_places xs later)
    where
      first : (y : X) (n : ℕ) → nth xs n ≡ Some y → R x y
      first y zero e = absurd (cc)
      first y (suc i) e = h 1 (suc (suc i)) x y (omega arith) refl e

      later : (i j : ℕ) (v w : X) → i < j → nth xs i ≡ Some v → nth xs j ≡ Some w → R v w
      later zero j v w low e f = absurd (cc)
      later (suc i) zero v w low e f = absurd (omega arith)
      later (suc i) (suc j) v w low e f = h (suc (suc i)) (suc (suc j)) v w (omega arith) e f

module _ {X Y : Type 0} (R : Y → Y → Type 0) where
  pub apart_map : (f : X → Y) (xs : List X) → Apart (λ v w. R (f v) (f w)) xs → Apart R (map f xs)
  apart_map f [] a = tt
  apart_map f (x ∷ xs) a = (
    λ y h. let found = from_map f xs y h in subst (R (f x)) found.2 (a.0 found.0 found.1),
    apart_map f xs a.1,
  )

  -- each piece by itself, and each two pieces
  pub apart_flat_map : (f : X → List Y) (xs : List X) → ((x : X) → Apart R (f x))
      → Apart (λ v w. Across R (f v) (f w)) xs → Apart R (flat_map f xs)
  apart_flat_map f [] each a = tt
  apart_flat_map f (x ∷ xs) each a =
      apart_append R (f x) (flat_map f xs) (each x) (apart_flat_map f xs each a.1)
      (λ v w h k. let found = from_flat_map f xs w k in a.0 found.0 found.1 v w h found.2)

pub apart_weaker : {X : Type 0} (R S : X → X → Type 0) (xs : List X) → ((x y : X) → R x y → S x y) → Apart R xs
    → Apart S xs
apart_weaker R S [] weaker a = tt
apart_weaker R S (x ∷ xs) weaker a = (λ y h. weaker x y (a.0 y h), apart_weaker R S xs weaker a.1)

-- two entries for each entry of a list: within a pair, and for two pairs in each combination
pub apart_pairs : {X Y : Type 0} (R : Y → Y → Type 0) (S : X → X → Type 0) (first second : X → Y) (xs : List X)
    → Apart S xs → ((x : X) → R (first x) (second x))
    → ((v w : X) → S v w → R (first v) (first w)) → ((v w : X) → R (first v) (second w))
    → ((v w : X) → R (second v) (first w)) → ((v w : X) → S v w → R (second v) (second w))
    → Apart R (flat_map (λ x. first x ∷ second x ∷ []) xs)
apart_pairs R S first second xs apart pair ff fs sf ss =
    apart_flat_map R (λ x. first x ∷ second x ∷ []) xs (λ x. apart_two R (first x) (second x) (pair x))
    (apart_weaker S (λ v w. Across R (first v ∷ second v ∷ []) (first w ∷ second w ∷ [])) xs
    (λ v w h. across_two_two R (first v) (second v) (first w) (second w) (ff v w h) (fs v w) (sf v w) (ss v w h))
    apart)

pub length-pairs : {X Y : Type 0} (first second : X → Y) (xs : List X)
    → length (flat_map (λ x. first x ∷ second x ∷ []) xs) ≡ 2 * length xs
length-pairs first second [] = refl
length-pairs first second (x ∷ xs) = omega (arith, length-pairs first second xs)

-- numbers in a row are different
pub range_apart : (a n : ℕ) → Apart (λ x y. x ≢ y) (range_with_len a n)
range_apart a zero = tt
range_apart a (suc n) = (
  λ y h e. let low : a + 1 ≤ y = (from_range (a + 1) n y h).0 in absurd (omega arith),
  range_apart (a + 1) n,
)
