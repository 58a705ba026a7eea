-- Permutations and their numbers.
use Rattle.std.specs.Prelude.{◌≡◌, ◌≢◌, ℕ, zero, suc, ◌+◌, ◌-◌, ◌*◌, ◌/◌, ◌%◌, ◌^◌, ◌<◌, ◌≤◌, ◌⊎◌, List, [], ◌∷◌, ◌++◌}
use Rattle.std.specs.Prelude.{length}
use Rattle.std.specs.Prelude.{Some, None, slice_get, refl}
use Rattle.std.specs.List.{AllPairs, range_with_len, remove}
use Rattle.std.proofs.Common.{append_assoc, arith, sym, ap, subst, ◌∙◌, inl, inr, get_or}
use Rattle.std.proofs.Math.Nat.{mul-pos, mul_comm, suc-mul, mod-lt, div-lt_iff_lt-mul, mul-le-mul_right}
use Rattle.std.proofs.lemmas.Bool.{cases_lt}
use Rattle.std.proofs.lemmas.List.Edits.{length-remove}
use Rattle.std.proofs.lemmas.List.Quantifiers.{all_pairs_remove}
use Rattle.std.proofs.lemmas.Nat.{div-add-mod', div-mul-add, same_from_place}
use Rattle.std.proofs.lemmas.Option.{get_or_from_slice_get, slice_get_within, slice_get-get_or}
use Rattle.bn_rlem.specs.Permutations.{BeginsWith, ComesBefore, IsPermutation, factorial}
use Rattle.bn_rlem.specs.Laws.{PermutationsAreNumbered, PermutationsAreOrdered}

-- ---- factorials

pub factorial_above : (n : ℕ) → 0 < factorial n
factorial_above zero = omega arith
factorial_above (suc n) = let above = factorial_above n in mul-pos (omega arith) above

factorial_grows : (n : ℕ) → factorial n ≤ factorial (suc n)
factorial_grows n = let e : suc n * factorial n ≡ n * factorial n + factorial n = suc-mul n (factorial n) in
    subst (λ x. factorial n ≤ x) (sym e) (omega arith)

small_by : (d n : ℕ) → n + d ≡ 20 → factorial n ≤ factorial 20
small_by zero n e = let same : n ≡ 20 = omega arith in subst (λ k. factorial k ≤ factorial 20) (sym same) (omega arith)
small_by (suc d) n e =
    let grows = factorial_grows n in
    let more = small_by d (suc n) (omega arith) in
    omega arith

pub factorial_small : (n : ℕ) → n ≤ 20 → factorial n ≤ factorial 20
factorial_small n low = small_by (20 - n) n (omega arith)

-- one factor more still fits into 64 bits
pub product_fits : (p n m : ℕ) → p ≡ factorial n → m ≡ n → n < 20 → p * (m + 1) < 2 ^ 64
product_fits p n m e f low =
    let one : m + 1 ≡ suc n = omega (arith, f) in
    let same : p * (m + 1) ≡ suc n * factorial n =
    ap (λ x. x * (m + 1)) e ∙ ap (λ x. factorial n * x) one ∙ mul_comm (factorial n) (suc n) in
    let small : suc n * factorial n ≤ factorial 20 = factorial_small (suc n) (omega (arith, low)) in
    let below : factorial 20 < 2 ^ 64 = omega arith in
    subst (λ x. x < 2 ^ 64) (sym same) (omega (arith, small, below))

pub factorial_more : (p n m : ℕ) → p ≡ factorial n → m ≡ n → p * (m + 1) ≡ factorial (n + 1)
factorial_more p n m e f =
    let one : m + 1 ≡ suc n = omega (arith, f) in
    let next : suc n ≡ n + 1 = omega arith in
    ap (λ x. x * (m + 1)) e ∙ ap (λ x. factorial n * x) one ∙ mul_comm (factorial n) (suc n) ∙ ap factorial next

-- the number of permutations by that of one entry less
top : (n : ℕ) → 0 < n → factorial n ≡ n * factorial (n - 1)
top zero some = absurd (omega (arith, some))
top (suc n) some = let same : suc n - 1 ≡ n = omega arith in ap (λ k. suc n * factorial k) (sym same)

-- ---- numbers

pub no_entries : (xs : List ℕ) → length xs ≡ 0 → xs ≡ []
no_entries [] e = refl
no_entries (x ∷ xs) e = absurd (omega arith)

-- a permutation has as many entries as the list
pub permuted_length : (xs : List ℕ) (n : ℕ) (p : List ℕ) → IsPermutation xs n p → length p ≡ length xs
permuted_length xs n [] h = ap length (sym h.0)
permuted_length xs n (x ∷ p) h =
    let shorter = length-remove xs h.place (slice_get_within xs h.place x h.entry) in
    let same = permuted_length (remove xs h.place) h.left p h.goes_on in
    omega arith

numbered : (count : ℕ) (xs : List ℕ) (n : ℕ) → length xs ≡ count → n < factorial count
    → (p : List ℕ) × IsPermutation xs n p
numbered zero xs n len low = ([], (no_entries xs len, omega arith))
numbered (suc m) xs n len low =
    let above = factorial_above m in
    let within : n / factorial m < suc m = (div-lt_iff_lt-mul above).1 low in
    let inside : n / factorial m < length xs = subst (λ k. n / factorial m < k) (sym len) within in
    let shorter = length-remove xs (n / factorial m) inside in
    let rest = numbered m (remove xs (n / factorial m)) (n % factorial m) (omega arith) (mod-lt n above) in
    let long = permuted_length (remove xs (n / factorial m)) (n % factorial m) rest.0 rest.1 in
    let same : length rest.0 ≡ m = omega arith in (
      get_or xs (n / factorial m) 0 ∷ rest.0,
      record {
        place = n / factorial m;
        left = n % factorial m;
        entry = slice_get-get_or xs (n / factorial m) 0 inside;
        number = subst (λ k. n ≡ n / factorial m * factorial k + n % factorial m) (sym same)
            (sym (div-add-mod' n (factorial m)));
        low = subst (λ k. n % factorial m < factorial k) (sym same) (mod-lt n above);
        goes_on = rest.1;
      },
    )

-- two permutations of one list and number begin alike
record BeginAlike (xs : List ℕ) (x y : ℕ) (p q : List ℕ) (g : ℕ × ℕ) (h : ℕ × ℕ) : Type 0 where
  pub places : g.0 ≡ h.0
  pub lefts : g.1 ≡ h.1
  pub entries : x ≡ y

counts_alike : (xs : List ℕ) (m n x y : ℕ) (p q : List ℕ) → IsPermutation xs m (x ∷ p) → IsPermutation xs n (y ∷ q)
    → length q ≡ length p
counts_alike xs m n x y p q g h =
    let long = permuted_length xs m (x ∷ p) g in
    let also = permuted_length xs n (y ∷ q) h in
    omega arith

begin_alike : (xs : List ℕ) (n x y : ℕ) (p q : List ℕ) (g : IsPermutation xs n (x ∷ p)) (h : IsPermutation xs n (y ∷ q))
    → BeginAlike xs x y p q (g.place, g.left) (h.place, h.left)
begin_alike xs n x y p q g h =
    let counts = counts_alike xs n n x y p q g h in
    let sum : n ≡ h.place * factorial (length p) + h.left =
    subst (λ k. n ≡ h.place * factorial k + h.left) counts h.number in
    let low : h.left < factorial (length p) = subst (λ k. h.left < factorial k) counts h.low in
    let same = same_from_place g.place g.left h.place h.left (factorial (length p)) g.low low (sym g.number ∙ sum) in
    let entry : Some x ≡ Some y = sym g.entry ∙ ap (slice_get xs) same.0 ∙ h.entry in
    record { places = same.0; lefts = same.1; entries = cc }

once : (xs : List ℕ) (n : ℕ) (p q : List ℕ) → IsPermutation xs n p → IsPermutation xs n q → p ≡ q
once xs n [] [] g h = refl
once xs n [] (y ∷ q) g h = absurd (
    let within = slice_get_within xs h.place y h.entry in let none = ap length g.0 in omega arith)
once xs n (x ∷ p) [] g h = absurd (
    let within = slice_get_within xs g.place x g.entry in let none = ap length h.0 in omega arith)
once xs n (x ∷ p) (y ∷ q) g h =
    let same = begin_alike xs n x y p q g h in
    let rest = once (remove xs g.place) g.left p q g.goes_on
    (subst (λ r. IsPermutation (remove xs g.place) r q) (sym same.lefts)
    (subst (λ i. IsPermutation (remove xs i) h.left q) (sym same.places) h.goes_on)) in
    λ t. same.entries t ∷ rest t

pub numbered-permutations : PermutationsAreNumbered
numbered-permutations = (λ xs n low. numbered (length xs) xs n refl low, once)

-- ---- order

-- of two places of a list, the earlier one has the entry that comes before
pub at_places : (R : ℕ → ℕ → Type 0) (xs : List ℕ) (i j x y : ℕ) → AllPairs R xs → slice_get xs i ≡ Some x
    → slice_get xs j ≡ Some y → i < j → R x y
at_places R xs i j x y pairs at also less =
    subst (λ v. R v y) (get_or_from_slice_get xs i x 0 at) (subst (R (get_or xs i 0))
    (get_or_from_slice_get xs j y 0 also) (pairs i j 0 less (slice_get_within xs j y also)))

-- rows of w places: the row comes before, or it is the same and the place in it comes before
rows : (a b c d w : ℕ) → b < w → d < w → a * w + b < c * w + d → (a < c) ⊎ ((a ≡ c) × (b < d))
rows a b c d w low also less = elim (cases_lt a c) [
  | inl before ↦ inl before
  | inr not ↦ elim (cases_lt c a) [
    | inl after ↦
        let more : suc c * w ≤ a * w = mul-le-mul_right w after in
        let e : suc c * w ≡ c * w + w = suc-mul c w in
        absurd (omega arith)
    | inr neither ↦
        let same : a ≡ c = omega arith in
        let also_less : a * w + b < a * w + d = subst (λ k. a * w + b < k * w + d) (sym same) less in
        inr (same, omega arith)
  ]
]

ordered : (xs : List ℕ) → AllPairs (λ x y. x < y) xs → (m n : ℕ) (p q : List ℕ) → IsPermutation xs m p
    → IsPermutation xs n q → m < n → ComesBefore p q
ordered xs rising m n [] [] g h less = absurd (let a = g.1 in let b = h.1 in omega arith)
ordered xs rising m n [] (y ∷ q) g h less = absurd (
    let within = slice_get_within xs h.place y h.entry in let none = ap length g.0 in omega arith)
ordered xs rising m n (x ∷ p) [] g h less = absurd (
    let within = slice_get_within xs g.place x g.entry in let none = ap length h.0 in omega arith)
ordered xs rising m n (x ∷ p) (y ∷ q) g h less =
    let counts = counts_alike xs m n x y p q g h in
    let sum : n ≡ h.place * factorial (length p) + h.left =
    subst (λ k. n ≡ h.place * factorial k + h.left) counts h.number in
    let low : h.left < factorial (length p) = subst (λ k. h.left < factorial k) counts h.low in
    let below : g.place * factorial (length p) + g.left < h.place * factorial (length p) + h.left =
    subst (λ v. g.place * factorial (length p) + g.left < v) sum (subst (λ u. u < n) g.number less) in
    elim (rows g.place g.left h.place h.left (factorial (length p)) g.low low below) [
      | inl earlier ↦ inl (at_places (λ a b. a < b) xs g.place h.place x y rising g.entry h.entry earlier)
      | inr same ↦
          let entry : Some x ≡ Some y = sym g.entry ∙ ap (slice_get xs) same.0 ∙ h.entry in
          let first : x ≡ y = cc in
          inr (
            first,
            ordered (remove xs g.place)
                (all_pairs_remove (λ a b. a < b) xs g.place (slice_get_within xs g.place x g.entry) rising)
                g.left h.left p q g.goes_on
                (subst (λ i. IsPermutation (remove xs i) h.left q) (sym same.0) h.goes_on) same.1,
          )
    ]

pub permutations-ordered : PermutationsAreOrdered
permutations-ordered = ordered

-- ---- one entry taken

pub place_within : (ys : List ℕ) (m size : ℕ) → size ≡ factorial (length ys - 1) → 0 < length ys
    → m < factorial (length ys) → m / size < length ys
place_within ys m size e some low =
    let above : 0 < size = subst (λ k. 0 < k) (sym e) (factorial_above (length ys - 1)) in
    (div-lt_iff_lt-mul above).1
    (subst (λ k. m < k) (top (length ys) some ∙ ap (λ k. length ys * k) (sym e)) low)

pub begins : (ys : List ℕ) (m size x : ℕ) (p : List ℕ) → size ≡ factorial (length ys - 1) → 0 < length ys
    → m < factorial (length ys) → slice_get ys (m / size) ≡ Some x → IsPermutation (remove ys (m / size)) (m % size) p
    → IsPermutation ys m (x ∷ p)
begins ys m size x p e some low at goes_on =
    let shorter = length-remove ys (m / size) (place_within ys m size e some low) in
    let long = permuted_length (remove ys (m / size)) (m % size) p goes_on in
    let left : length ys - 1 ≡ length p = omega arith in
    let size_is : size ≡ factorial (length p) = e ∙ ap factorial left in
    let above : 0 < size = subst (λ k. 0 < k) (sym e) (factorial_above (length ys - 1)) in
    record {
      place = m / size;
      left = m % size;
      entry = at;
      number = subst (λ k. m ≡ m / size * k + m % size) size_is (sym (div-add-mod' m size));
      low = subst (λ k. m % size < k) size_is (mod-lt m above);
      goes_on = goes_on;
    }

range_more : (a n : ℕ) → range_with_len a n ++ (a + n) ∷ [] ≡ range_with_len a (n + 1)
range_more a zero = let e : a + 0 ≡ a = omega arith in ap (λ k. k ∷ []) e
range_more a (suc n) =
    let e : a + 1 + n ≡ a + suc n = omega arith in
    let f : suc n + 1 ≡ suc (n + 1) = omega arith in
    ap (λ ys. a ∷ ys) (ap (λ k. range_with_len (a + 1) n ++ k ∷ []) (sym e) ∙ range_more (a + 1) n)
    ∙ ap (range_with_len a) (sym f)

pub below_more : (n : ℕ) → range_with_len 0 n ++ n ∷ [] ≡ range_with_len 0 (n + 1)
below_more n = let e : n ≡ 0 + n = omega arith in ap (λ k. range_with_len 0 n ++ k ∷ []) e ∙ range_more 0 n

pub some_entries : (size n : ℕ) → size ≡ factorial n → 0 < size
some_entries size n e = subst (λ k. 0 < k) (sym e) (factorial_above n)

pub taken : (xs : List ℕ) (number count done : ℕ) (left new : List ℕ) (rest size : ℕ) (entries more : List ℕ) (x : ℕ)
    → length left + done ≡ count → done < count → size ≡ factorial (length left - 1) → rest < factorial (length left)
    → new ≡ remove left (rest / size) → x ≡ get_or left (rest / size) x → more ≡ entries ++ x ∷ []
    → ((p : List ℕ) → IsPermutation left rest p → IsPermutation xs number (entries ++ p))
    → record {
      count : length new + (done + 1) ≡ count;
      low : rest % size < factorial (length new);
      goes_on : (p : List ℕ) → IsPermutation new (rest % size) p → IsPermutation xs number (more ++ p);
    }
taken xs number count done left new rest size entries more x sum before size_is low new_is x_is more_is goes_on =
    let some : 0 < length left = omega (arith, sum, before) in
    let inside = place_within left rest size size_is some low in
    let shorter : length (remove left (rest / size)) + 1 ≡ length left = length-remove left (rest / size) inside in
    let long : length new ≡ length left - 1 = (let e = ap length new_is in omega (arith, e, shorter)) in
    record {
      count = omega (arith, long, sum, some);
      low = subst (λ k. rest % size < k) (size_is ∙ ap factorial (sym long))
          (mod-lt rest (some_entries size (length left - 1) size_is));
      goes_on = λ p h.
          (let at : slice_get left (rest / size) ≡ Some x =
          slice_get-get_or left (rest / size) x inside ∙ ap Some (sym x_is) in
          subst (IsPermutation xs number) (sym (append_assoc entries (x ∷ []) p) ∙ ap (λ es. es ++ p) (sym more_is))
          (goes_on (x ∷ p) (begins left rest size x p size_is some low at
          (subst (λ ys. IsPermutation ys (rest % size) p) new_is h))));
    }

-- a permutation has a number below the factorial of the count of its entries
pub permuted_below : (xs : List ℕ) (n : ℕ) (p : List ℕ) → IsPermutation xs n p → n < factorial (length xs)
permuted_below xs n [] h =
    let none : length xs ≡ 0 = ap length h.0 in
    subst (λ k. n < factorial k) (sym none) (let zero_is = h.1 in omega (arith, zero_is))
permuted_below xs n (x ∷ p) h =
    let inside = slice_get_within xs h.place x h.entry in
    let long = permuted_length xs n (x ∷ p) h in
    let less : length xs - 1 ≡ length p = omega (arith, long) in
    let some : 0 < length xs = omega (arith, long) in
    let row : suc h.place * factorial (length p) ≤ length xs * factorial (length p) =
    mul-le-mul_right (factorial (length p)) inside in
    let e : suc h.place * factorial (length p) ≡ h.place * factorial (length p) + factorial (length p) =
    suc-mul h.place (factorial (length p)) in
    let all : factorial (length xs) ≡ length xs * factorial (length p) =
    top (length xs) some ∙ ap (λ k. length xs * factorial k) less in
    let number = h.number in
    let low = h.low in
    omega (arith, row, e, all, number, low)
