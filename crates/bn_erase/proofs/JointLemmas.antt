-- The joint alphabet of two machines, and the codes of their symbols in it.
use Rattle.std.specs.Prelude.{◌≡◌, ◌≢◌, ℕ, zero, suc, ◌<◌, ◌≤◌, ◌⊎◌, ◌||◌, ◌==◌, List, [], ◌∷◌, Bool, true, false, cond}
use Rattle.std.specs.Prelude.{not, filter, slice_get, Some}
use Rattle.std.specs.List.{list_any}
use Rattle.std.proofs.Common.{refl, sym, ap, ◌∙◌, subst, arith, get_or, inl, inr}
use Rattle.std.proofs.lemmas.Bool.{cases_lt}
use Rattle.std.proofs.lemmas.Bool.Decides.{eqb_tells}
use Rattle.std.proofs.lemmas.Option.{slice_get_within, slice_get-get_or}
use Rattle.bn_csv.proofs.NumberingLemmas.{number_stays}
use Rattle.bn_lists.specs.Lists.{nth, IsIn}
use Rattle.bn_bennett_laws.proofs.Apart.{Apart, apart_append, apart_places, apart_from_places}
use Rattle.bn_bennett_laws.proofs.MembershipLemmas.{in_head, in_tail, in_cases, not_in_empty, in_left, in_right}
use Rattle.bn_erase.specs.Joint.{joint_letters, IsAlphabet}
use Rattle.bn_erase.specs.Laws.{CodesKeepSymbols, JointAlphabet}

-- ---- filtered lists

in_kept : {X : Type 0} (b : Bool) (x y : X) (xs : List X) → IsIn (cond b (x ∷ xs) xs) y
    → ((b ≡ true) × (x ≡ y)) ⊎ IsIn xs y
in_kept true x y xs h = elim (in_cases x y xs h) [ inl same ↦ inl (refl, same) | inr further ↦ inr further ]
in_kept false x y xs h = inr h

kept_in : {X : Type 0} (b : Bool) (x y : X) (xs : List X) → ((b ≡ true) × (x ≡ y)) ⊎ IsIn xs y
    → IsIn (cond b (x ∷ xs) xs) y
kept_in true x y xs (inl h) = subst (IsIn (x ∷ xs)) h.1 (in_head x xs)
kept_in true x y xs (inr further) = in_tail x y xs further
kept_in false x y xs (inl h) = absurd (let e = h.0 in cc)
kept_in false x y xs (inr further) = further

from_filter : {X : Type 0} (test : X → Bool) (xs : List X) (y : X) → IsIn (filter test xs) y
    → IsIn xs y × (test y ≡ true)
from_filter test [] y h = absurd (not_in_empty y h)
from_filter test (x ∷ xs) y h =
    elim (in_kept (test x) x y (filter test xs) h) [
      | inl here ↦ (subst (IsIn (x ∷ xs)) here.1 (in_head x xs), subst (λ z. test z ≡ true) here.1 here.0)
      | inr further ↦ let found = from_filter test xs y further in (in_tail x y xs found.0, found.1)
    ]

pub in_filter : {X : Type 0} (test : X → Bool) (xs : List X) (y : X) → IsIn xs y → test y ≡ true
    → IsIn (filter test xs) y
in_filter test [] y h passes = absurd (not_in_empty y h)
in_filter test (x ∷ xs) y h passes =
    elim (in_cases x y xs h) [
      | inl same ↦ kept_in (test x) x y (filter test xs) (inl (subst (λ z. test z ≡ true) (sym same) passes, same))
      | inr further ↦ kept_in (test x) x y (filter test xs) (inr (in_filter test xs y further passes))
    ]

kept_apart : {X : Type 0} (R : X → X → Type 0) (b : Bool) (x : X) (xs : List X) → ((y : X) → IsIn xs y → R x y)
    → Apart R xs → Apart R (cond b (x ∷ xs) xs)
kept_apart R true x xs each a = (each, a)
kept_apart R false x xs each a = a

apart_filter : {X : Type 0} (R : X → X → Type 0) (test : X → Bool) (xs : List X) → Apart R xs → Apart R (filter test xs)
apart_filter R test [] a = tt
apart_filter R test (x ∷ xs) a = kept_apart R (test x) x (filter test xs) (λ y h. a.0 y (from_filter test xs y h).0)
    (apart_filter R test xs a.1)

-- ---- letters

-- whether a letter stands among others
abbrev pub is_among : List ℕ → ℕ → Bool
is_among letters letter = list_any (λ known. known == letter) letters

-- a letter that stands among the others is told so, and one that doesn't isn't
pub among_in : (letters : List ℕ) (l : ℕ) → IsIn letters l → is_among letters l ≡ true
among_in [] l h = absurd (not_in_empty l h)
among_in (x ∷ letters) l h =
    elim (eqb_tells x l) [
      | inl same ↦ ap (λ b. b || is_among letters l) same.0
      | inr other ↦ elim (in_cases x l letters h) [
        | inl same ↦ absurd (other.1 same)
        | inr further ↦ ap (λ b. b || is_among letters l) other.0 ∙ among_in letters l further
      ]
    ]

pub in_among : (letters : List ℕ) (l : ℕ) → is_among letters l ≡ true → IsIn letters l
in_among [] l e = absurd (cc)
in_among (x ∷ letters) l e =
    elim (eqb_tells x l) [
      | inl same ↦ subst (IsIn (x ∷ letters)) same.1 (in_head x letters)
      | inr other ↦ in_tail x l letters (in_among letters l (sym (ap (λ b. b || is_among letters l) other.0) ∙ e))
    ]

-- ---- alphabets

pub letters_apart : (blank : ℕ) (letters : List ℕ) → IsAlphabet blank letters → Apart (λ x y. x ≢ y) letters
letters_apart blank letters a = apart_from_places (λ x y. x ≢ y) letters
    (λ i j v w low h k same. absurd (by_places i j v w low h k same))
  where
    by_places : (i j v w : ℕ) → i < j → nth letters i ≡ Some v → nth letters j ≡ Some w → v ≡ w → ⊥
    by_places zero j v w low h k same = cc
    by_places (suc i) zero v w low h k same = absurd (omega arith)
    by_places (suc i) (suc j) v w low h k same = let equal : i ≡ j =
        a.apart i j w (h ∙ ap Some same) k in absurd (omega arith)

apart_alphabet : (blank : ℕ) (letters : List ℕ) → slice_get letters 0 ≡ Some blank → Apart (λ x y. x ≢ y) letters
    → IsAlphabet blank letters
apart_alphabet blank letters begins a = record {
  begins = begins;
  apart = λ m n l e f. by_order m n l e f (cases_lt m n) (cases_lt n m);
}
  where
    by_order : (m n l : ℕ) → slice_get letters m ≡ Some l → slice_get letters n ≡ Some l → (m < n) ⊎ (n ≤ m)
        → (n < m) ⊎ (m ≤ n) → m ≡ n
    by_order m n l e f (inl low) other = absurd (apart_places (λ x y. x ≢ y) letters (suc m) (suc n) l l a (omega arith)
        e f refl)
    by_order m n l e f (inr high) (inl low) = absurd (apart_places (λ x y. x ≢ y) letters (suc n) (suc m) l l a
        (omega arith) f e refl)
    by_order m n l e f (inr high) (inr low) = omega arith

module _ (blank : ℕ) (first second : List ℕ) (one : IsAlphabet blank first) (two : IsAlphabet blank second) where
  abbrev test : ℕ → Bool
  test letter = not (is_among first letter)

  joint_apart : Apart (λ x y. x ≢ y) (joint_letters first second)
  joint_apart =
      apart_append (λ x y. x ≢ y) first (filter test second) (letters_apart blank first one)
      (apart_filter (λ x y. x ≢ y) test second (letters_apart blank second two))
      (λ v w h k same.
      let found : test w ≡ true = (from_filter test second w k).1 in
      let there : is_among first w ≡ true = among_in first w (subst (IsIn first) same h) in
      let told : not true ≡ true = sym (ap not there) ∙ found in
      cc)

  joint_begins : slice_get (joint_letters first second) 0 ≡ Some blank
  joint_begins = number_stays first (filter test second) 0 blank one.begins

-- each letter of the second stands in the joint alphabet
pub second_in : (first second : List ℕ) (l : ℕ) → IsIn second l → IsIn (joint_letters first second) l
second_in first second l h = by_test (is_among first l) refl
  where
    by_test : (b : Bool) → is_among first l ≡ b → IsIn (joint_letters first second) l
    by_test true is = in_left first (filter (λ letter. not (is_among first letter)) second) l (in_among first l is)
    by_test false is =
        in_right first (filter (λ letter. not (is_among first letter)) second) l
        (in_filter (λ letter. not (is_among first letter)) second l h (ap not is))

-- ---- the laws

pub joint_alphabet : JointAlphabet
joint_alphabet blank first second one two = (
  apart_alphabet blank (joint_letters first second) (joint_begins blank first second one two)
      (joint_apart blank first second one two),
  record { each = λ s l e. number_stays first (filter (λ letter. not (is_among first letter)) second) s l e },
  λ l h. second_in first second l h,
)

some_once : {X : Type 0} {x y : X} → Some x ≡ Some y → x ≡ y
some_once e = cc

pub codes_keep_symbols : CodesKeepSymbols
codes_keep_symbols blank before after code one two codes = record {
  blank = two.apart (code 0) 0 blank (codes.each 0 blank one.begins) two.begins;
  apart = λ a b low high same.
      let at_a = slice_get-get_or before a 0 low in
      let at_b = slice_get-get_or before b 0 high in
      let letter : get_or before a 0 ≡ get_or before b 0 = some_once
      (sym (codes.each a (get_or before a 0) at_a) ∙ ap (slice_get after) same
      ∙ codes.each b (get_or before b 0) at_b) in
      one.apart a b (get_or before b 0) (at_a ∙ ap Some letter) at_b;
  within = λ a low. slice_get_within after (code a) (get_or before a 0)
      (codes.each a (get_or before a 0) (slice_get-get_or before a 0 low));
}
