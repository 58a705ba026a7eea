-- Laws of numbering by first appearance.
use Rattle.std.proofs.Common.{◌≡◌, ◌≤◌, ◌&&◌, ◌∷◌, ◌++◌, ◌∙◌, ◌||◌, ℕ, suc, zero, Bool, true, false, not, List, []}
use Rattle.std.proofs.Common.{length, Some, refl, sym, ap, inl, inr, arith, if◌then◌else◌, filter, slice_get}
use Rattle.std.proofs.Common.{append_assoc, nat_eq, get_or, length-append}
use Rattle.std.specs.Prelude.{bytes_eq, Contains}
use Rattle.std.specs.Bool.{Decides}
use Rattle.std.specs.List.{AllZip, list_all, list_any}
use Rattle.std.proofs.lemmas.List.Folds.{list_any_at}
use Rattle.std.proofs.lemmas.Bool.Decides.{Decides-eqb}
use Rattle.std.proofs.lemmas.Bool.{cases_Bool, false≢true}
use Rattle.std.proofs.lemmas.List.{append-nil}
use Rattle.std.proofs.lemmas.List.Elements.{filter-append}
use Rattle.std.proofs.lemmas.Slice.Eq.{bytes_eq-Decides}
use Rattle.bn_csv.specs.Numbering.{AreNumbered, AreNumberedByFirst, firsts, firsts_by, numbers_from, with_name}
use Rattle.bn_csv.specs.NumberingLaws.{AreApart}

-- a number stays when names are added behind
pub number_stays : {X : Type 0} (xs ys : List X) (n : ℕ) (x : X) → slice_get xs n ≡ Some x
    → slice_get (xs ++ ys) n ≡ Some x
number_stays [] ys n x e = cc e
number_stays (z ∷ zs) ys zero x e = e
number_stays (z ∷ zs) ys (suc n) x e = number_stays zs ys n x e

-- the number of the element at the end
pub number_of_last : {X : Type 0} (xs : List X) (x : X) → slice_get (xs ++ x ∷ []) (length xs) ≡ Some x
number_of_last [] x = refl
number_of_last (z ∷ zs) x = number_of_last zs x

-- both of two tests
pub both_true : (a b : Bool) → (a && b) ≡ true → (a ≡ true) × (b ≡ true)
both_true true b e = (refl, e)
both_true false b e = cc e

module _ {X : Type 0} (same : X → X → Bool) (decides : (a b : X) → Decides (same a b) (a ≡ b)) where
  is-same : (x : X) → same x x ≡ true
  is-same x = (decides x x).1 refl

  turned : (x y : X) → same x y ≡ false → same y x ≡ false
  turned x y e = elim (cases_Bool (same y x)) [
    | inl hit ↦
        let both : same x y ≡ true = (decides x y).1 (sym ((decides y x).0 hit)) in
        let miss : true ≡ false = sym both ∙ e in cc
    | inr miss ↦ miss
  ]

  -- what is filtered out is none of the others
  any-filter : (x y : X) (zs : List X) → same y x ≡ false → list_any (same y) (filter (λ z. not (same x z)) zs)
      ≡ list_any (same y) zs
  any-filter x y [] ne = refl
  any-filter x y (z ∷ zs) ne = elim (cases_Bool (same x z)) [
    | inl hit ↦
        let at : x ≡ z = (decides x z).0 hit in
        let other : same y z ≡ false = ap (λ (t : X). same y t) (sym at) ∙ ne in
        rw (hit, other) (any-filter x y zs ne)
    | inr miss ↦ rw miss (ap (λ (t : Bool). same y z || t) (any-filter x y zs ne))
  ]

  -- the elements of a list and its first appearances are the same
  pub any-firsts : (y : X) (xs : List X) → list_any (same y) (firsts_by same xs) ≡ list_any (same y) xs
  unfolding firsts_by
  any-firsts y [] = refl
  any-firsts y (x ∷ xs) = elim (cases_Bool (same y x)) [
    | inl hit ↦ rw hit refl
    | inr miss ↦ rw miss (any-filter x y (firsts_by same xs) miss ∙ any-firsts y xs)
  ]

  push-old : (x y : X) (xs : List X) → list_any (same y) (firsts_by same xs) ≡ true
      → list_any (same y) (x ∷ filter (λ z. not (same x z)) (firsts_by same xs)) ≡ true
  push-old x y xs any = elim (cases_Bool (same y x)) [
    | inl hit ↦ rw hit refl
    | inr miss ↦ rw miss (any-filter x y (firsts_by same xs) miss ∙ any)
  ]

  -- one more element: it is new, or the first appearances stay
  pub firsts-push : (xs : List X) (y : X)
      → firsts_by same (xs ++ y ∷ []) ≡ (if list_any (same y) (firsts_by same xs) then firsts_by same xs else firsts_by
      same xs ++ y ∷ [])
  unfolding firsts_by
  firsts-push [] y = refl
  firsts-push (x ∷ xs) y = elim (cases_Bool (list_any (same y) (firsts_by same xs))) [
    | inl any ↦
        let before : firsts_by same (xs ++ y ∷ []) ≡ firsts_by same xs = firsts-push xs y ∙ rw any refl in
        rw (push-old x y xs any) (ap (λ (t : List X). x ∷ filter (λ z. not (same x z)) t) before)
    | inr none ↦
        let before : firsts_by same (xs ++ y ∷ []) ≡ firsts_by same xs ++ y ∷ [] = firsts-push xs y ∙ rw none refl in
        let kept : filter (λ z. not (same x z)) (firsts_by same (xs ++ y ∷ []))
        ≡ filter (λ z. not (same x z)) (firsts_by same xs) ++ filter (λ z. not (same x z)) (y ∷ []) =
        ap (λ (t : List X). filter (λ z. not (same x z)) t) before
        ∙ filter-append (λ z. not (same x z)) (firsts_by same xs) (y ∷ []) in
        elim (cases_Bool (same y x)) [
          | inl hit ↦
              let also : same x y ≡ true = (decides x y).1 (sym ((decides y x).0 hit)) in
              rw (kept, hit, also) (ap (λ (t : List X). x ∷ t) (append-nil _))
          | inr miss ↦
              rw (kept, miss, turned y x miss, any-filter x y (firsts_by same xs) miss, none) refl
        ]
  ]

  -- more elements: the first appearances stay at the front
  pub firsts-append : (xs ys : List X) → (zs : List X) × (firsts_by same (xs ++ ys) ≡ firsts_by same xs ++ zs)
  firsts-append xs [] = ([], rw (append-nil xs, append-nil (firsts_by same xs)) refl)
  firsts-append xs (y ∷ ys) =
      let (zs, rest) = firsts-append (xs ++ y ∷ []) ys in
      let all : firsts_by same (xs ++ y ∷ ys) ≡ firsts_by same (xs ++ y ∷ []) ++ zs =
      ap (λ (t : List X). firsts_by same t) (sym (append_assoc xs (y ∷ []) ys)) ∙ rest in
      elim (cases_Bool (list_any (same y) (firsts_by same xs))) [
        | inl any ↦ (zs, all ∙ ap (λ (t : List X). t ++ zs) (firsts-push xs y ∙ rw any refl))
        | inr none ↦ (
          y ∷ zs,
          all ∙ ap (λ (t : List X). t ++ zs) (firsts-push xs y ∙ rw none refl)
              ∙ append_assoc (firsts_by same xs) (y ∷ []) zs,
        )
      ]

  any-kept : (test : X → Bool) (y : X) (zs : List X) → list_any (same y) zs ≡ false
      → list_any (same y) (filter test zs) ≡ false
  any-kept test y [] e = refl
  any-kept test y (z ∷ zs) e = elim (cases_Bool (same y z)) [
    | inl hit ↦ let miss : true ≡ false = rw hit at e in cc
    | inr miss ↦ elim (cases_Bool (test z)) [
      | inl kept ↦ rw (kept, miss) (any-kept test y zs (rw miss at e))
      | inr out ↦ rw out (any-kept test y zs (rw miss at e))
    ]
  ]

  apart-filter : (test : X → Bool) (zs : List X) → AreApart same decides zs → AreApart same decides (filter test zs)
  apart-filter test [] h = tt
  apart-filter test (z ∷ zs) h = elim (cases_Bool (test z)) [
    | inl kept ↦ rw kept (any-kept test z zs h.0, apart-filter test zs h.1)
    | inr out ↦ rw out (apart-filter test zs h.1)
  ]

  none-filter : (x : X) (zs : List X) → list_any (same x) (filter (λ z. not (same x z)) zs) ≡ false
  none-filter x [] = refl
  none-filter x (z ∷ zs) = elim (cases_Bool (same x z)) [
    | inl hit ↦ rw hit (none-filter x zs)
    | inr miss ↦ rw (miss, miss) (none-filter x zs)
  ]

  pub apart-firsts : (xs : List X) → AreApart same decides (firsts_by same xs)
  unfolding firsts_by
  apart-firsts [] = tt
  apart-firsts (x ∷ xs) = (
    none-filter x (firsts_by same xs),
    apart-filter (λ z. not (same x z)) (firsts_by same xs) (apart-firsts xs),
  )

  pub any-at : (y : X) (zs : List X) (n : ℕ) → slice_get zs n ≡ Some y → list_any (same y) zs ≡ true
  any-at y [] n e = cc e
  any-at y (z ∷ zs) zero e = let at : z ≡ y = cc in rw (ap (λ (t : X). same y t) at ∙ is-same y) refl
  any-at y (z ∷ zs) (suc n) e = elim (cases_Bool (same y z)) [
    | inl hit ↦ rw hit refl
    | inr miss ↦ rw miss (any-at y zs n e)
  ]

  -- elements that are apart have one number each
  pub one_number : (zs : List X) (m n : ℕ) (x : X) → AreApart same decides zs → slice_get zs m ≡ Some x
      → slice_get zs n ≡ Some x → m ≡ n
  one_number [] m n x h a b = cc a
  one_number (z ∷ zs) zero zero x h a b = refl
  one_number (z ∷ zs) zero (suc n) x h a b =
      let at : z ≡ x = cc in
      let any : true ≡ false = sym (ap (λ (t : X). list_any (same t) zs) at ∙ any-at x zs n b) ∙ h.0 in cc
  one_number (z ∷ zs) (suc m) zero x h a b =
      let at : z ≡ x = cc in
      let any : true ≡ false = sym (ap (λ (t : X). list_any (same t) zs) at ∙ any-at x zs m a) ∙ h.0 in cc
  one_number (z ∷ zs) (suc m) (suc n) x h a b = ap (λ (t : ℕ). suc t) (one_number zs m n x h.1 a b)

  -- each element of a list has a number
  pub some_number : (x : X) (zs : List X) → list_any (same x) zs ≡ true → (n : ℕ) × (slice_get zs n ≡ Some x)
  some_number x [] e = cc e
  some_number x (z ∷ zs) e = elim (cases_Bool (same x z)) [
    | inl hit ↦ (zero, ap (λ (t : X). Some t) (sym ((decides x z).0 hit)))
    | inr miss ↦ let (n, at) = some_number x zs (rw miss at e) in (suc n, at)
  ]

-- one more name
pub firsts_push : (names : List (List ℕ)) (name : List ℕ) → firsts (names ++ name ∷ []) ≡ with_name (firsts names) name
firsts_push names name = firsts-push bytes_eq bytes_eq-Decides names name

-- what is in a list, by the test
any-from-contains : (name : List ℕ) (names : List (List ℕ)) → Contains names name
    → list_any (bytes_eq name) names ≡ true
any-from-contains name names (k, within, at) =
    list_any_at (bytes_eq name) names k name within ((bytes_eq-Decides name (get_or names k name)).1 (sym at))

-- the first appearances of a list of names are a numbering of them
pub firsts_number : (names : List (List ℕ)) → AreNumbered names (firsts names)
firsts_number names = record {
  each = λ name h. some_number bytes_eq bytes_eq-Decides name (firsts names)
      (any-firsts bytes_eq bytes_eq-Decides name names ∙ any-from-contains name names h);
  apart = λ name m n a b. one_number bytes_eq bytes_eq-Decides (firsts names) m n name
      (apart-firsts bytes_eq bytes_eq-Decides names) a b;
  grows = λ name. firsts_push names name;
}

-- numbers beside the elements that have them
abbrev pub AreNumbersOf : {X : Type 0} → List X → List ℕ → List X → Type 0
AreNumbersOf numbered numbers xs = AllZip (λ n x. slice_get numbered n ≡ Some x) numbers xs

module _ {X : Type 0} (same : X → X → Bool) (decides : (a b : X) → Decides (same a b) (a ≡ b)) where
  -- two elements are the same where their numbers are
  same_number : (zs : List X) → AreApart same decides zs → (m n : ℕ) (x y : X) → slice_get zs m ≡ Some x
      → slice_get zs n ≡ Some y
      → nat_eq m n ≡ same x y
  same_number zs apart m n x y a b = elim (cases_Bool (same x y)) [
    | inl hit ↦
        let at : x ≡ y = (decides x y).0 hit in
        (Decides-eqb m n).1 (one_number same decides zs m n y apart (a ∙ ap (λ (t : X). Some t) at) b) ∙ sym hit
    | inr miss ↦ elim (cases_Bool (nat_eq m n)) [
      | inl equal ↦
          let number : m ≡ n = (Decides-eqb m n).0 equal in
          let at : x ≡ y = cc in
          let not : true ≡ false = sym ((decides x y).1 at) ∙ miss in cc
      | inr other ↦ other ∙ sym miss
    ]
  ]

  filter_numbers : (zs : List X) → AreApart same decides zs → (n : ℕ) (x : X) → slice_get zs n ≡ Some x
      → (ns : List ℕ) (xs : List X)
      → AreNumbersOf zs ns xs → AreNumbersOf zs (filter (λ m. not (nat_eq n m)) ns) (filter (λ y. not (same x y)) xs)
  filter_numbers zs apart n x at [] [] h = tt
  filter_numbers zs apart n x at [] (y ∷ ys) h = absurd h
  filter_numbers zs apart n x at (m ∷ ms) [] h = absurd h
  filter_numbers zs apart n x at (m ∷ ms) (y ∷ ys) h = elim (cases_Bool (same x y)) [
    | inl hit ↦ rw (same_number zs apart n m x y at h.0 ∙ hit, hit) (filter_numbers zs apart n x at ms ys h.1)
    | inr miss ↦ rw (same_number zs apart n m x y at h.0 ∙ miss, miss) (h.0, filter_numbers zs apart n x at ms ys h.1)
  ]

  firsts_numbers : (zs : List X) → AreApart same decides zs → (ns : List ℕ) (xs : List X) → AreNumbersOf zs ns xs
      → AreNumbersOf zs (firsts_by nat_eq ns) (firsts_by same xs)
  unfolding firsts_by
  firsts_numbers zs apart [] [] h = tt
  firsts_numbers zs apart [] (y ∷ ys) h = absurd h
  firsts_numbers zs apart (m ∷ ms) [] h = absurd h
  firsts_numbers zs apart (m ∷ ms) (y ∷ ys) h = (
    h.0,
    filter_numbers zs apart m y h.0 (firsts_by nat_eq ms) (firsts_by same ys) (firsts_numbers zs apart ms ys h.1),
  )

  -- the numbers of the elements behind a front are those from its length on
  in_order : (front rest : List X) → AreApart same decides (front ++ rest) → (ns : List ℕ)
      → AreNumbersOf (front ++ rest) ns rest
      → ns ≡ numbers_from (length front) (length rest)
  unfolding numbers_from
  in_order front [] apart [] h = refl
  in_order front [] apart (n ∷ ns) h = absurd h
  in_order front (x ∷ rest) apart [] h = absurd h
  in_order front (x ∷ rest) apart (n ∷ ns) h =
      let regroup : (front ++ x ∷ []) ++ rest ≡ front ++ x ∷ rest = append_assoc front (x ∷ []) rest in
      let next : slice_get (front ++ x ∷ rest) (length front) ≡ Some x =
      rw (← regroup) (number_stays (front ++ x ∷ []) rest (length front) x (number_of_last front x)) in
      let here : n ≡ length front = one_number same decides (front ++ x ∷ rest) n (length front) x apart h.0 next in
      let later = in_order (front ++ x ∷ []) rest (rw regroup apart) ns (rw regroup h.1) in
      let longer : length (front ++ x ∷ []) ≡ suc (length front) = length-append front (x ∷ []) ∙ omega arith in
      rw (here, later, longer) refl

  -- numbers given by first appearance are all numbers below their count, and appear in order
  pub numbered-by-first : (ns : List ℕ) (xs : List X) → AreNumbersOf (firsts_by same xs) ns xs
      → AreNumberedByFirst ns (length (firsts_by same xs))
  numbered-by-first ns xs h =
      let apart = apart-firsts same decides xs in
      in_order [] (firsts_by same xs) apart (firsts_by nat_eq ns) (firsts_numbers (firsts_by same xs) apart ns xs h)

filter-shorter : {X : Type 0} (test : X → Bool) (zs : List X) → length (filter test zs) ≤ length zs
filter-shorter test [] = omega arith
filter-shorter test (z ∷ zs) = elim (cases_Bool (test z)) [
  | inl kept ↦ let rest = filter-shorter test zs in rw kept (omega arith)
  | inr out ↦ let rest = filter-shorter test zs in rw out (omega arith)
]

module _ {X : Type 0} (same : X → X → Bool) (decides : (a b : X) → Decides (same a b) (a ≡ b)) where
  -- there are no more first appearances than elements
  pub length-firsts : (xs : List X) → length (firsts_by same xs) ≤ length xs
  unfolding firsts_by
  length-firsts [] = omega arith
  length-firsts (x ∷ xs) =
      let kept : length (filter (λ z. not (same x z)) (firsts_by same xs)) ≤ length (firsts_by same xs) =
      filter-shorter (λ z. not (same x z)) (firsts_by same xs) in
      let rest : length (firsts_by same xs) ≤ length xs = length-firsts xs in
      omega arith

  all-stay : (u : X) (zs : List X) → list_any (same u) zs ≡ false → length (filter (λ z. not (same u z)) zs) ≡ length zs
  all-stay u [] e = refl
  all-stay u (z ∷ zs) e = elim (cases_Bool (same u z)) [
    | inl hit ↦ let none : true ≡ false = rw hit at e in cc
    | inr miss ↦ rw miss (ap (λ (n : ℕ). suc n) (all-stay u zs (rw miss at e)))
  ]

  one-out : (u : X) (zs : List X) → AreApart same decides zs → length zs
      ≤ suc (length (filter (λ z. not (same u z)) zs))
  one-out u [] h = omega arith
  one-out u (z ∷ zs) h = elim (cases_Bool (same u z)) [
    | inl hit ↦
        let at : u ≡ z = (decides u z).0 hit in
        let others : list_any (same u) zs ≡ false = ap (λ (t : X). list_any (same t) zs) at ∙ h.0 in
        let stay : length (filter (λ z. not (same u z)) zs) ≡ length zs = all-stay u zs others in
        rw hit (omega arith)
    | inr miss ↦ let rest = one-out u zs h.1 in rw miss (omega arith)
  ]

  in-others : (u : X) (us zs : List X) → list_all (λ z. list_any (same z) (u ∷ us)) zs ≡ true
      → list_all (λ z. list_any (same z) us) (filter (λ z. not (same u z)) zs) ≡ true
  in-others u us [] e = refl
  in-others u us (z ∷ zs) e = elim (cases_Bool (same u z)) [
    | inl hit ↦ rw hit (in-others u us zs (both_true (list_any (same z) (u ∷ us)) _ e).1)
    | inr miss ↦
        let all = both_true (list_any (same z) (u ∷ us)) (list_all (λ z. list_any (same z) (u ∷ us)) zs) e in
        let other : list_any (same z) us ≡ true = rw (turned same decides u z miss) at all.0 in
        rw (miss, other) (in-others u us zs all.1)
  ]

  -- elements that are apart, each of them among others, are no more than those
  pub no_more_than : (us zs : List X) → AreApart same decides zs → list_all (λ z. list_any (same z) us) zs ≡ true
      → length zs ≤ length us
  no_more_than [] [] h e = omega arith
  no_more_than [] (z ∷ zs) h e = absurd (false≢true e)
  no_more_than (u ∷ us) zs h e =
      let shorter : length zs ≤ suc (length (filter (λ z. not (same u z)) zs)) = one-out u zs h in
      let rest : length (filter (λ z. not (same u z)) zs) ≤ length us =
      no_more_than us (filter (λ z. not (same u z)) zs) (apart-filter same decides (λ z. not (same u z)) zs h)
      (in-others u us zs e) in
      omega arith
