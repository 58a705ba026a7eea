-- A list with one more element at the end, where that is new.
use Rattle.std.proofs.Common.{◌≡◌, ◌<◌, ◌≤◌, ◌+◌, ◌∷◌, ◌++◌, ◌∙◌, ℕ, suc, zero, Bool, true, List, [], length, Some}
use Rattle.std.proofs.Common.{refl, ap, inl, inr, arith, if◌then◌else◌, slice_get, get_or, length-append}
use Rattle.std.specs.Bool.{Decides}
use Rattle.std.specs.List.{list_all, list_any}
use Rattle.std.proofs.lemmas.Bool.{cases_Bool}
use Rattle.std.proofs.lemmas.List.{append-nil}
use Rattle.std.proofs.lemmas.List.Folds.{list_all-append, list_any-append}
use Rattle.std.proofs.lemmas.Option.{slice_get-get_or}
use Rattle.bn_csv.specs.NumberingLaws.{AreApart}
use Rattle.bn_csv.proofs.NumberingLemmas.{number_stays, one_number, some_number}

-- a look-up in front of what was added
pub front : {X : Type 0} (xs more : List X) (other : X) (n : ℕ) → n < length xs
    → get_or (xs ++ more) n other ≡ get_or xs n other
front [] more other n h = absurd (omega arith)
front (x ∷ xs) more other zero h = refl
front (x ∷ xs) more other (suc n) h = front xs more other n (omega arith)

module _ {X : Type 0} (same : X → X → Bool) where
  -- the elements and, where it is new, one more
  abbrev pub with_new : List X → X → List X
  with_new xs x = if list_any (same x) xs then xs else xs ++ x ∷ []

  -- the elements stay at the front
  pub new_grows : (xs : List X) (x : X) → (more : List X) × (with_new xs x ≡ xs ++ more)
  new_grows xs x = elim (cases_Bool (list_any (same x) xs)) [
    | inl hit ↦ ([], rw (hit, append-nil xs) refl)
    | inr miss ↦ (x ∷ [], rw miss refl)
  ]

  -- a number stays
  pub new_stays : (xs : List X) (later x : X) (n : ℕ) → slice_get xs n ≡ Some x
      → slice_get (with_new xs later) n ≡ Some x
  new_stays xs later x n at = let (more, grown) = new_grows xs later in rw grown (number_stays xs more n x at)

  -- there is one more at most
  pub new_length : (xs : List X) (x : X) → length (with_new xs x) ≤ length xs + 1
  new_length xs x = elim (cases_Bool (list_any (same x) xs)) [
    | inl hit ↦ rw hit (omega arith)
    | inr miss ↦ rw (miss, length-append xs (x ∷ [])) (omega arith)
  ]

  -- a test that all pass and the new one too
  pub new_all : (test : X → Bool) (xs : List X) (x : X) → list_all test xs ≡ true → test x ≡ true
      → list_all test (with_new xs x) ≡ true
  new_all test xs x all here = elim (cases_Bool (list_any (same x) xs)) [
    | inl hit ↦ rw hit all
    | inr miss ↦ rw (miss, list_all-append test xs (x ∷ []), all, here) refl
  ]

module _ {X : Type 0} (same : X → X → Bool) (decides : (a b : X) → Decides (same a b) (a ≡ b)) where
  -- the element is among them then
  new_there : (xs : List X) (x : X) → list_any (same x) (with_new same xs x) ≡ true
  new_there xs x = elim (cases_Bool (list_any (same x) xs)) [
    | inl hit ↦ rw (hit, hit) refl
    | inr miss ↦ rw (miss, list_any-append (same x) xs (x ∷ []), miss, (decides x x).1 refl) refl
  ]

  -- the element added last has a number, and so has the one added before it
  pub last_number : (xs : List X) (x : X) → (n : ℕ) × (slice_get (with_new same xs x) n ≡ Some x)
  last_number xs x = some_number same decides x (with_new same xs x) (new_there xs x)

  pub first_number : (xs : List X) (x later : X) → (n : ℕ) × (slice_get (with_new same (with_new same xs x) later) n
      ≡ Some x)
  first_number xs x later =
      let (n, at) = last_number xs x in
      (n, new_stays same (with_new same xs x) later x n at)

  -- numbers with one element are one
  pub same_at : (xs : List X) (other : X) (m n : ℕ) → AreApart same decides xs → m < length xs → n < length xs
      → get_or xs m other ≡ get_or xs n other → m ≡ n
  same_at xs other m n apart a b e =
      one_number same decides xs m n (get_or xs n other) apart
      (slice_get-get_or xs m other a ∙ ap (λ (t : X). Some t) e) (slice_get-get_or xs n other b)
