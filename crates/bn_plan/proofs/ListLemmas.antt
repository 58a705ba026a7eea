-- Lemmas on lists: what is in them, pairs, and that a list without repeats is no longer than one that holds all of it.
use Rattle.std.specs.Prelude.{◌≡◌, ◌≢◌, ℕ, zero, suc, ◌+◌, ◌<◌, ◌≤◌, Bool, true, false, cond, List, [], ◌∷◌, length}
use Rattle.std.specs.Prelude.{map, get_or, eqb, ◌⊎◌}
use Rattle.std.specs.List.{count_by, filter, IsDistinct, AllByRecursion, Contains}
use Rattle.std.proofs.Common.{refl, sym, subst, ◌∙◌, ap, arith, inl, inr}
use Rattle.std.proofs.lemmas.Bool.{cases_lt, cases_Bool}
use Rattle.std.proofs.lemmas.Bool.Decides.{eqb_tells}
use Rattle.std.proofs.lemmas.List.Sums.{sum_by-cons}
use Rattle.bn_plan.specs.Lists.{Pairwise}
use Rattle.bn_lists.specs.Lists.{Has}

-- elements of a list of images
pub in_map_cases : {X Y : Type 0} (f : X → Y) (xs : List X) (y : Y) → Has (map f xs) y → (x : X) × Has xs x × (y ≡ f x)
in_map_cases f [] y h = absurd h
in_map_cases f (x ∷ xs) y (inl e) = (x, inl refl, e)
in_map_cases f (x ∷ xs) y (inr h) = let rest = in_map_cases f xs y h in (rest.0, inr rest.1, rest.2)

-- the image of an element is in the list of images
pub in_map : {X Y : Type 0} (f : X → Y) (xs : List X) (x : X) → Has xs x → Has (map f xs) (f x)
in_map f [] x h = absurd h
in_map f (y ∷ ys) x (inl e) = inl (ap f e)
in_map f (y ∷ ys) x (inr h) = inr (in_map f ys x h)

-- a relation that follows from another on every pair
pub pairwise_weaker : {X : Type 0} (R S : X → X → Type 0) (xs : List X)
    → ((x y : X) → Has xs x → Has xs y → R x y → S x y) → Pairwise R xs → Pairwise S xs
pairwise_weaker R S [] keeps a = tt
pairwise_weaker R S (x ∷ xs) keeps a = (
  (λ y h. keeps x y (inl refl) (inr h) (a.0 y h)),
  pairwise_weaker R S xs (λ v w h k. keeps v w (inr h) (inr k)) a.1,
)

-- images are related as the elements are by their images
pub pairwise_map : {X Y : Type 0} (S : Y → Y → Type 0) (f : X → Y) (xs : List X) → Pairwise (λ x y. S (f x) (f y)) xs
    → Pairwise S (map f xs)
pairwise_map S f [] a = tt
pairwise_map S f (x ∷ xs) a = (
  (λ y h. let from = in_map_cases f xs y h in subst (S (f x)) (sym from.2) (a.0 from.0 from.1)),
  pairwise_map S f xs a.1,
)

-- and the other way round
pub pairwise_unmap : {X Y : Type 0} (S : Y → Y → Type 0) (f : X → Y) (xs : List X) → Pairwise S (map f xs)
    → Pairwise (λ x y. S (f x) (f y)) xs
pairwise_unmap S f [] a = tt
pairwise_unmap S f (x ∷ xs) a = ((λ y h. a.0 (f y) (in_map f xs y h)), pairwise_unmap S f xs a.1)

-- two relations on every pair are both
pub pairwise_both : {X : Type 0} (R S : X → X → Type 0) (xs : List X) → Pairwise R xs → Pairwise S xs
    → Pairwise (λ x y. R x y × S x y) xs
pairwise_both R S [] a b = tt
pairwise_both R S (x ∷ xs) a b = ((λ y h. (a.0 y h, b.0 y h)), pairwise_both R S xs a.1 b.1)

-- ---- what passes a test

-- an element that passes stays in the filtered list
pub in_filter : {X : Type 0} (test : X → Bool) (xs : List X) (x : X) → Has xs x → test x ≡ true → Has (filter test xs) x
in_filter test [] x h e = absurd h
in_filter test (y ∷ ys) x (inl same) e = let hit : test y ≡ true = ap test (sym same) ∙ e in rw hit (inl same)
in_filter test (y ∷ ys) x (inr h) e = elim (cases_Bool (test y)) [
  | inl hit ↦ rw hit (inr (in_filter test ys x h e))
  | inr miss ↦ rw miss (in_filter test ys x h e)
]

-- filtered, an element is one of the list that passes
pub filter_in : {X : Type 0} (test : X → Bool) (xs : List X) (x : X) → Has (filter test xs) x
    → Has xs x × (test x ≡ true)
filter_in test [] x h = absurd h
filter_in {X} test (y ∷ ys) x h = let rest = filter_in test ys x in elim (opened (test y) h) [
  | inl here ↦ (inl here.1, ap test here.1 ∙ here.0)
  | inr there ↦ let r = rest there in (inr r.0, r.1)
]
  where
    opened : (b : Bool) → Has (cond b (y ∷ filter test ys) (filter test ys)) x
        → ((b ≡ true) × (x ≡ y)) ⊎ Has (filter test ys) x
    opened true (inl e) = inl (refl, e)
    opened true (inr h) = inr h
    opened false h = inr h

-- pairs of the filtered list are pairs of the list
pub pairwise_filter : {X : Type 0} (R : X → X → Type 0) (test : X → Bool) (xs : List X) → Pairwise R xs
    → Pairwise R (filter test xs)
pairwise_filter R test [] a = tt
pairwise_filter R test (x ∷ xs) a = elim (cases_Bool (test x)) [
  | inl hit ↦ rw hit ((λ y h. a.0 y (filter_in test xs y h).0), pairwise_filter R test xs a.1)
  | inr miss ↦ rw miss (pairwise_filter R test xs a.1)
]

-- a count by the first element
pub count-cons : {X : Type 0} (test : X → Bool) (x : X) (xs : List X)
    → count_by test (x ∷ xs) ≡ cond (test x) 1 0 + count_by test xs
count-cons test x xs = sum_by-cons (λ y. cond (test y) 1 0) x xs

-- a count over images
pub count-map : {X Y : Type 0} (test : Y → Bool) (f : X → Y) (xs : List X)
    → count_by test (map f xs) ≡ count_by (λ x. test (f x)) xs
count-map test f [] = refl
count-map test f (x ∷ xs) = count-cons test (f x) (map f xs) ∙ ap (λ n. cond (test (f x)) 1 0 + n) (count-map test f xs)
    ∙ sym (count-cons (λ y. test (f y)) x xs)

-- ---- lists of numbers without repeats

-- the list without one of its elements
taken_out : (ys : List ℕ) (x : ℕ) → Has ys x → (zs : List ℕ) × (suc (length zs) ≡ length ys)
    × ((y : ℕ) → y ≢ x → Has ys y → Has zs y)
taken_out [] x h = absurd h
taken_out (z ∷ ys) x (inl e) = (ys, refl, kept)
  where
    kept : (y : ℕ) → y ≢ x → Has (z ∷ ys) y → Has ys y
    kept y other (inl f) = absurd (other (f ∙ sym e))
    kept y other (inr h) = h
taken_out (z ∷ ys) x (inr h) = let rest = taken_out ys x h in
    (z ∷ rest.0, ap suc rest.1, λ y other k. kept rest.0 rest.2 y other k)
  where
    kept : (zs : List ℕ) → ((y : ℕ) → y ≢ x → Has ys y → Has zs y) → (y : ℕ) → y ≢ x → Has (z ∷ ys) y → Has (z ∷ zs) y
    kept zs rest y other (inl f) = inl f
    kept zs rest y other (inr h) = inr (rest y other h)

-- numbers without repeats that are all in a list are no more than those of the list
pub no_longer : (xs ys : List ℕ) → Pairwise (λ x y. x ≢ y) xs → ((x : ℕ) → Has xs x → Has ys x) → length xs ≤ length ys
no_longer [] ys a h = omega arith
no_longer (x ∷ xs) ys a h =
    let out = taken_out ys x (h x (inl refl)) in
    let count = out.1 in
    let rest = no_longer xs out.0 a.1 (λ y k. out.2 y (λ e. a.0 y k (sym e)) (h y (inr k))) in
    omega (arith, rest, count)

-- the numbers from n down to 1
abbrev pub down_from : ℕ → List ℕ
down_from zero = []
down_from (suc n) = suc n ∷ down_from n

-- there are n of them
pub length-down_from : (n : ℕ) → length (down_from n) ≡ n
length-down_from zero = refl
length-down_from (suc n) = ap suc (length-down_from n)

-- each number from 1 to n is one of them
pub down_from_in : (n x : ℕ) → 0 < x → x ≤ n → Has (down_from n) x
down_from_in zero x some h = absurd (omega arith)
down_from_in (suc n) x some h = elim (cases_lt n x) [
  | inl last ↦ inl (omega arith)
  | inr low ↦ inr (down_from_in n x some low)
]

-- and no other
pub down_from_within : (n x : ℕ) → Has (down_from n) x → (0 < x) × (x ≤ n)
down_from_within zero x h = absurd h
down_from_within (suc n) x (inl e) = (omega (arith, e), omega (arith, e))
down_from_within (suc n) x (inr h) = let rest = down_from_within n x h in (rest.0, omega (arith, rest.1))

-- none comes twice
pub down_from_apart : (n : ℕ) → Pairwise (λ x y. x ≢ y) (down_from n)
down_from_apart zero = tt
down_from_apart (suc n) = (
  (λ y h e. let low = (down_from_within n y h).1 in absurd (omega (arith, low, e))),
  down_from_apart n,
)

-- ---- std's words for membership and for lists without repeats

-- an element in the list stands at a place
pub in_contains : {X : Type 0} (xs : List X) (x : X) → Has xs x → Contains xs x
in_contains [] x h = absurd h
in_contains (y ∷ ys) x (inl e) = (0, omega arith, sym e)
in_contains (y ∷ ys) x (inr h) = let rest = in_contains ys x h in
    (suc rest.0, let inside = rest.1 in omega (arith, inside), rest.2)

-- and what stands at a place is in it
pub contains_in : {X : Type 0} (xs : List X) (x : X) (k : ℕ) → k < length xs → get_or xs k x ≡ x → Has xs x
contains_in [] x k h e = absurd (omega arith)
contains_in (y ∷ ys) x zero h e = inl (sym e)
contains_in (y ∷ ys) x (suc k) h e = inr (contains_in ys x k (omega (arith, h)) e)

-- the test on numbers is the same both ways
pub eqb_flips : (x y : ℕ) → eqb x y ≡ eqb y x
eqb_flips x y = elim (eqb_tells x y) [
  | inl same ↦ elim (eqb_tells y x) [ inl also ↦ same.0 ∙ sym also.0 | inr other ↦ absurd (other.1 (sym same.1)) ]
  | inr apart ↦ elim (eqb_tells y x) [ inl same ↦ absurd (apart.1 (sym same.1)) | inr also ↦ apart.0 ∙ sym also.0 ]
]

-- what holds of all holds of an element
all_in : {X : Type 0} (P : X → Type 0) (xs : List X) → AllByRecursion P xs → (x : X) → Has xs x → P x
all_in P [] a x h = absurd h
all_in P (y ∷ ys) a x (inl e) = subst P (sym e) a.0
all_in P (y ∷ ys) a x (inr h) = all_in P ys a.1 x h

-- what holds of each element holds of all
in_all : {X : Type 0} (P : X → Type 0) (xs : List X) → ((x : X) → Has xs x → P x) → AllByRecursion P xs
in_all P [] h = tt
in_all P (y ∷ ys) h = (h y (inl refl), in_all P ys (λ x k. h x (inr k)))

-- numbers that fail the test differ
unequal : (x y : ℕ) → eqb x y ≡ false → x ≢ y
unequal x y miss = elim (eqb_tells x y) [
  | inl same ↦ let clash : true ≡ false = sym same.0 ∙ miss in absurd (cc)
  | inr other ↦ other.1
]

-- numbers that differ fail the test
equal_not : (x y : ℕ) → x ≢ y → eqb x y ≡ false
equal_not x y other = elim (eqb_tells x y) [ inl same ↦ absurd (other same.1) | inr apart ↦ apart.0 ]

-- a list without repeats has no two equal
pub distinct_pairwise : (xs : List ℕ) → IsDistinct eqb xs → Pairwise (λ x y. x ≢ y) xs
unfolding IsDistinct
distinct_pairwise [] d = tt
distinct_pairwise (x ∷ xs) d = (
  (λ y h. unequal x y (all_in (λ z. eqb x z ≡ false) xs d.0 y h)),
  distinct_pairwise xs d.1,
)

-- and the other way round
pub pairwise_distinct : (xs : List ℕ) → Pairwise (λ x y. x ≢ y) xs → IsDistinct eqb xs
unfolding IsDistinct
pairwise_distinct [] a = tt
pairwise_distinct (x ∷ xs) a = (
  in_all (λ z. eqb x z ≡ false) xs (λ y h. equal_not x y (a.0 y h)),
  pairwise_distinct xs a.1,
)
