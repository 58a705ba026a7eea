-- How many elements of a list pass a test.
use Rattle.std.proofs.Common.{◌≡◌, inl, inr, Bool, true, false, cond, ◌==◌, ◌||◌, not, slice_get, ℕ, suc, ◌+◌, ◌<◌}
use Rattle.std.proofs.Common.{List, [], ◌∷◌, ◌++◌, length, map, Some, refl, sym, ap, subst, ◌∙◌, arith, eq-eqb}
use Rattle.std.specs.List.{filter, range_with_len}
use Rattle.std.proofs.lemmas.Bool.{eqb-true}
use Rattle.bn_lists.specs.Lists.{Has}
use Rattle.bn_lists.proofs.ApartLemmas.{same_length, filtered, from_filtered, apart_filtered, range_member, range_apart}

-- how many pass
abbrev pub passing : {A : Type 0} → (A → Bool) → List A → ℕ
passing test l = length (filter test l)

abbrev one : Bool → ℕ
one b = cond b 1 0

passing_first : {A : Type 0} (test : A → Bool) (x : A) (l : List A)
    → passing test (x ∷ l) ≡ one (test x) + passing test l
passing_first test x l = by (test x)
  where
    by : (b : Bool) → length (cond b (x ∷ filter test l) (filter test l)) ≡ one b + passing test l
    by true = omega arith
    by false = omega arith

pub passing_append : {A : Type 0} (test : A → Bool) (l k : List A)
    → passing test (l ++ k) ≡ passing test l + passing test k
passing_append test [] k = omega arith
passing_append test (x ∷ l) k =
    let more = passing_append test l k in
    let both = passing_first test x (l ++ k) in
    let left = passing_first test x l in
    omega arith

pub passing_mapped : {A B : Type 0} (test : B → Bool) (f : A → B) (l : List A)
    → passing test (map f l) ≡ passing (λ x. test (f x)) l
passing_mapped test f [] = refl
passing_mapped test f (x ∷ l) =
    let more = passing_mapped test f l in
    let here = passing_first test (f x) (map f l) in
    let there = passing_first (λ y. test (f y)) x l in
    omega arith

pub all_pass : {A : Type 0} (l : List A) → passing (λ x. true) l ≡ length l
all_pass [] = refl
all_pass (x ∷ l) = ap suc (all_pass l)

-- those that pass and those that don't
pub halves : {A : Type 0} (test other : A → Bool) → ((x : A) → other x ≡ not (test x)) → (l : List A)
    → passing test l + passing other l ≡ length l
halves test other turns [] = refl
halves test other turns (x ∷ l) =
    let more = halves test other turns l in
    let here = passing_first test x l in
    let there = passing_first other x l in
    let both = sums (test x) (other x) (turns x) in
    omega arith
  where
    sums : (b c : Bool) → c ≡ not b → one b + one c ≡ 1
    sums true c e = let same = ap one e in omega arith
    sums false c e = let same = ap one e in omega arith

-- tests of which never both are passed
pub either : {A : Type 0} (test other : A → Bool) → ((x : A) → test x ≡ true → other x ≡ false) → (l : List A)
    → passing (λ x. test x || other x) l ≡ passing test l + passing other l
either test other never [] = refl
either test other never (x ∷ l) =
    let more = either test other never l in
    let here = passing_first test x l in
    let there = passing_first other x l in
    let any = passing_first (λ y. test y || other y) x l in
    let both = sums (test x) (other x) (never x) in
    omega arith
  where
    sums : (b c : Bool) → (b ≡ true → c ≡ false) → one (b || c) ≡ one b + one c
    sums true c e = let same = ap one (e refl) in omega arith
    sums false c e = omega arith

-- a number is one of those in a row
pub just_one : (n x : ℕ) → x < n → passing (λ k. k == x) (range_with_len 0 n) ≡ 1
just_one n x low =
    same_length (filter (λ k. k == x) (range_with_len 0 n)) (x ∷ [])
    (apart_filtered (λ k. k == x) (range_with_len 0 n) (range_apart 0 n)) ((λ h. h), tt)
    (λ k h. inl (eqb-true k x (from_filtered (λ k. k == x) (range_with_len 0 n) k h).1))
    within
  where
    within : (k : ℕ) → Has (x ∷ []) k → Has (filter (λ k. k == x) (range_with_len 0 n)) k
    within k (inl e) = subst (λ v. Has (filter (λ k. k == x) (range_with_len 0 n)) v) (sym e)
        (filtered (λ k. k == x) (range_with_len 0 n) x (range_member 0 n x (omega arith) (omega arith))
        (eq-eqb x x refl))
    within k (inr h) = absurd h

-- elements tested by their places
pub by_places : {A : Type 0} (test : A → Bool) (f : ℕ → A) (l : List A) (a : ℕ)
    → ((i : ℕ) (x : A) → slice_get l i ≡ Some x → f (a + i) ≡ x)
    → passing (λ k. test (f k)) (range_with_len a (length l)) ≡ passing test l
by_places test f [] a here = refl
by_places test f (x ∷ l) a here =
    let more = by_places test f l (a + 1) (λ i y e. let place : a + 1 + i ≡ a + suc i = omega arith in ap f place
    ∙ here (suc i) y e) in
    let none : a ≡ a + 0 = omega arith in
    let same : f a ≡ x = ap f none ∙ here 0 x refl in
    let first = passing_first (λ k. test (f k)) a (range_with_len (a + 1) (length l)) in
    let there = passing_first test x l in
    let ones = ap (λ v. one (test v)) same in
    omega arith
