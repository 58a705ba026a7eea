-- Letters of tables: how many there are at most, and the number of one among others.
use Rattle.std.specs.Prelude.{◌≡◌, ◌≢◌, ℕ, zero, suc, ◌+◌, ◌≤◌, ◌||◌, ◌&&◌, ◌==◌, List, [], ◌∷◌, ◌++◌, Bool, true}
use Rattle.std.specs.Prelude.{false, cond, nat_eq, nat_lt, filter, length, position, slice_get, take, Option, Some}
use Rattle.std.specs.Prelude.{None, Contains, IfSome, IfNone}
use Rattle.std.specs.Option.{is_some}
use Rattle.std.specs.List.{list_all, list_any, position_or_len}
use Rattle.std.proofs.Common.{refl, sym, ap, ◌∙◌, subst, arith, inl, inr, append_assoc}
use Rattle.std.proofs.lemmas.Bool.{cases_Bool}
use Rattle.std.proofs.lemmas.Bool.Decides.{Decides-eqb, eqb_tells, nat_tests}
use Rattle.std.proofs.lemmas.List.{append-nil}
use Rattle.std.proofs.lemmas.List.Elements.{filter_more}
use Rattle.std.proofs.lemmas.List.Folds.{list_all-append}
use Rattle.std.proofs.lemmas.Option.{cond_some, get_or_from_slice_get, slice_get_within}
use Rattle.bn_csv.specs.Forms.{is_symbol_byte}
use Rattle.bn_csv.specs.NumberingLaws.{AreApart}
use Rattle.bn_csv.proofs.NumberingLemmas.{both_true}
use Rattle.bn_lists.specs.Lists.{nth, IsIn}
use Rattle.bn_bennett_laws.proofs.Apart.{Apart}
use Rattle.bn_table.proofs.Bounds.{few-different}
use Rattle.bn_bennett_laws.proofs.MembershipLemmas.{in_head, in_tail, in_cases, not_in_empty}
use Rattle.bn_erase.specs.Joint.{number_in}
use Rattle.bn_erase.proofs.JointLemmas.{among_in, in_among, is_among}

-- ---- how many letters there are

none_same : (x : ℕ) (xs : List ℕ) → ((y : ℕ) → IsIn xs y → x ≢ y) → list_any (nat_eq x) xs ≡ false
none_same x [] h = refl
none_same x (y ∷ ys) h =
    elim (eqb_tells x y) [
      | inl same ↦ absurd (h y (in_head y ys) same.1)
      | inr other ↦ ap (λ b. b || list_any (nat_eq x) ys) other.0 ∙ none_same x ys (λ z k. h z (in_tail y z ys k))
    ]

told_apart : (xs : List ℕ) → Apart (λ x y. x ≢ y) xs → AreApart nat_eq Decides-eqb xs
told_apart [] a = tt
told_apart (x ∷ xs) a = (none_same x xs a.0, told_apart xs a.1)

-- different letters are 91 at most
pub few_letters : (letters : List ℕ) → Apart (λ x y. x ≢ y) letters → list_all is_symbol_byte letters ≡ true
    → length letters ≤ 91
few_letters letters a e = few-different letters (told_apart letters a) e

-- letters of both lists, some of the second left out, have the form of letters where those of the two have it
all_filtered : (p q : ℕ → Bool) (xs : List ℕ) → list_all p xs ≡ true → list_all p (filter q xs) ≡ true
all_filtered p q [] e = refl
all_filtered p q (x ∷ xs) e =
    let both = both_true (p x) (list_all p xs) e in
    elim (cases_Bool (q x)) [
      | inl kept ↦ rw (kept, both.0) (all_filtered p q xs both.1)
      | inr out ↦ rw out (all_filtered p q xs both.1)
    ]

pub all_joined : (p q : ℕ → Bool) (xs ys : List ℕ) → list_all p xs ≡ true → list_all p ys ≡ true
    → list_all p (xs ++ filter q ys) ≡ true
all_joined p q xs ys e f = list_all-append p xs (filter q ys) ∙ ap (λ b. b && list_all p (filter q ys)) e
    ∙ all_filtered p q ys f

-- ---- the number of a letter

number_is : (letters : List ℕ) (letter : ℕ) → number_in letters letter ≡ position_or_len (nat_eq letter) letters
number_is [] letter = refl
number_is (x ∷ letters) letter = elim (eqb_tells x letter) [
  | inl same ↦ rw (same.0, (Decides-eqb letter x).1 (sym same.1)) refl
  | inr other ↦ elim (eqb_tells letter x) [
    | inl same ↦ absurd (other.1 (sym same.1))
    | inr miss ↦ rw (other.0, miss.0) (omega (arith, number_is letters letter))
  ]
]

number_most : (letters : List ℕ) (letter : ℕ) → number_in letters letter ≤ length letters
number_most [] letter = omega arith
number_most (x ∷ letters) letter = elim (cases_Bool (x == letter)) [
  | inl hit ↦ rw hit (omega arith)
  | inr miss ↦ rw miss (omega (arith, number_most letters letter))
]

pub number_found : (letters : List ℕ) (letter n : ℕ) → position (nat_eq letter) letters ≡ Some n
    → n ≡ number_in letters letter
number_found letters letter n e =
    sym (cond_some (nat_lt (position_or_len (nat_eq letter) letters) (length letters))
    (position_or_len (nat_eq letter) letters) n e).1
    ∙ sym (number_is letters letter)

pub number_missing : (letters : List ℕ) (letter : ℕ) → position (nat_eq letter) letters ≡ None
    → length letters ≡ number_in letters letter
number_missing letters letter e = elim (cases_Bool (nat_lt (position_or_len (nat_eq letter) letters)
    (length letters))) [
      | inl hit ↦ let none : Some (position_or_len (nat_eq letter) letters) ≡ None = rw hit at e in cc
      | inr miss ↦
          let past : length letters ≤ position_or_len (nat_eq letter) letters = grind (arith, nat_tests) in
          omega (arith, past, number_is letters letter, number_most letters letter)
    ]

-- the letter stands at its number
pub number_stands : (letters : List ℕ) (l : ℕ) → IsIn letters l → slice_get letters (number_in letters l) ≡ Some l
number_stands [] l h = absurd (not_in_empty l h)
number_stands (x ∷ letters) l h =
    elim (eqb_tells x l) [
      | inl same ↦ subst (λ b. slice_get (x ∷ letters) (cond b zero (suc (number_in letters l))) ≡ Some l) (sym same.0)
          (ap Some same.1)
      | inr other ↦ subst (λ b. slice_get (x ∷ letters) (cond b zero (suc (number_in letters l))) ≡ Some l)
          (sym other.0)
          (elim (in_cases x l letters h) [
            | inl same ↦ absurd (other.1 same)
            | inr further ↦ number_stands letters l further
          ])
    ]

-- ---- letters that are gathered one by one

-- whether a letter that is looked up is known
known_letter : (letters : List ℕ) (l n : ℕ) → slice_get letters n ≡ Some l → is_among letters l ≡ true
known_letter letters l n e = among_in letters l (record { place = suc n; stands = e })

new_letter : (letters : List ℕ) (l : ℕ) → (Contains letters l → ⊥) → is_among letters l ≡ false
new_letter letters l none = elim (cases_Bool (is_among letters l)) [
  | inl known ↦ let there : IsIn letters l = in_among letters l known in absurd
      (none (by_place there.place there.stands))
  | inr new ↦ new
]
  where
    by_place : (n : ℕ) → nth letters n ≡ Some l → Contains letters l
    by_place zero e = absurd (cc)
    by_place (suc i) e = (i, slice_get_within letters i l e, get_or_from_slice_get letters i l l e)

pub known_is : (letters : List ℕ) (l : ℕ) (found : Option ℕ) → IfSome found (λ n. slice_get letters n ≡ Some l)
    → IfNone found (Contains letters l → ⊥) → is_among letters l ≡ is_some found
known_is letters l (Some n) at none = known_letter letters l n at
known_is letters l None at none = new_letter letters l none

module _ (test : ℕ → Bool) (all : List ℕ) (i l : ℕ) (at : slice_get all i ≡ Some l) where
  -- one more letter that passes a test, or one that doesn't
  filtered_more : filter test (take (i + 1) all) ≡ filter test (take i all) ++ cond (test l) (l ∷ []) []
  filtered_more =
      filter_more test all i l (slice_get_within all i l at)
      ∙ ap (λ x. filter test (take i all) ++ cond (test x) (x ∷ []) []) (get_or_from_slice_get all i l l at)

  pub filtered_in : (start front new : List ℕ) → test l ≡ true → front ≡ start ++ filter test (take i all)
      → new ≡ front ++ l ∷ [] → new ≡ start ++ filter test (take (i + 1) all)
  filtered_in start front new passes before now =
      now
      ∙ ap (λ xs. xs ++ l ∷ []) before
      ∙ append_assoc start (filter test (take i all)) (l ∷ [])
      ∙ ap (λ xs. start ++ xs) (sym (filtered_more ∙ ap (λ b. filter test (take i all) ++ cond b (l ∷ []) []) passes))

  pub filtered_out : (start front : List ℕ) → test l ≡ false → front ≡ start ++ filter test (take i all)
      → front ≡ start ++ filter test (take (i + 1) all)
  filtered_out start front fails before =
      before
      ∙ ap (λ xs. start ++ xs) (sym (filtered_more ∙ ap (λ b. filter test (take i all) ++ cond b (l ∷ []) []) fails
      ∙ append-nil (filter test (take i all))))
