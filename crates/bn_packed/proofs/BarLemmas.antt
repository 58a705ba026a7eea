-- Bars as bits: how they are read and turned, and the rows of the rotary element.
use Rattle.std.specs.Prelude.{◌≡◌, ◌≢◌, ◌==◌, true, false, ℕ, ◌+◌, ◌-◌, ◌*◌, ◌/◌, ◌%◌, ◌^◌, ◌<◌, ◌≤◌, List, [], ◌∷◌}
use Rattle.std.specs.Prelude.{◌++◌, length, take, replicate, Some, slice_get, bit_and, bit_xor, refl, ◌⊎◌}
use Rattle.std.specs.Int.{bit_at}
use Rattle.std.proofs.Common.{arith, sym, ap, subst, ◌∙◌, inl, inr, get_or, set, length-set}
use Rattle.std.proofs.lemmas.Bool.Decides.{nat_tests, eqb_tells}
use Rattle.std.proofs.lemmas.List.{take_more, get_or-set_same, get_or-set_other, get_or-replicate, get_or_past}
use Rattle.std.proofs.lemmas.List.{length-replicate}
use Rattle.std.proofs.lemmas.Grind.{get_or_default_zero}
use Rattle.std.proofs.lemmas.List.FromFn.{length-map-range_with_len, get_or-map-range_with_len, fill_by_all}
use Rattle.std.proofs.lemmas.Nat.{one_shl}
use Rattle.std.proofs.lemmas.Nat.Bits.{bit_at_xor, bit_at-pow_same, bit_at-pow_other, bit_at-zero, bit_at-lt}
use Rattle.std.proofs.lemmas.Nat.Bits.{shr_and_one}
use Rattle.std.proofs.lemmas.Option.{slice_get-get_or, get_or_from_slice_get, slice_get_within}
use Rattle.bn_packed.specs.Bars.{word_of, bar_in, bars_of, turned}

pub length-bars : (words : List ℕ) (n : ℕ) → length (bars_of words n) ≡ n
length-bars words n = length-map-range_with_len (bar_in words) 0 n

pub get_or-bars : (words : List ℕ) (n e d : ℕ) → e < n → get_or (bars_of words n) e d ≡ bar_in words e
get_or-bars words n e d within = get_or-map-range_with_len (bar_in words) 0 n e e d within (omega arith)

pub slice_get-bars : (words : List ℕ) (n e : ℕ) → e < n → slice_get (bars_of words n) e ≡ Some (bar_in words e)
slice_get-bars words n e within =
    let there : e < length (bars_of words n) = omega (arith, length-bars words n) in
    slice_get-get_or (bars_of words n) e 0 there ∙ ap Some (get_or-bars words n e 0 within)

-- the word of a bar is there
pub word-within : (words : List ℕ) (n e : ℕ) → n ≤ 16 * length words → e < n → word_of e < length words
word-within words n e room within = omega arith

-- the word that the code reads
word-read : (words bars : List ℕ) (n e w : ℕ) → bars_of words n ≡ bars → n ≤ 16 * length words → e < length bars
    → w ≡ get_or words (word_of e) w
    → get_or words (word_of e) 0 ≡ w
word-read words bars n e w is room within read =
    let there : e < n = omega (arith, length-bars words n, ap length is) in
    sym (read ∙ get_or_default_zero words (word_of e) w (word-within words n e room there))

-- the bit that the code reads
read-bar : (words bars : List ℕ) (n e w : ℕ) → bars_of words n ≡ bars → n ≤ 16 * length words → e < length bars
    → w ≡ get_or words (word_of e) w
    → slice_get bars e ≡ Some (bit_and (w / 2 ^ (e % 64)) 1)
read-bar words bars n e w is room within read =
    let word = word-read words bars n e w is room within read in
    let there : e < n = omega (arith, length-bars words n, ap length is) in
    ap (λ bs. slice_get bs e) (sym is) ∙ slice_get-bars words n e there ∙ ap (λ x. Some (bit_at x (e % 64))) word
    ∙ ap Some (sym (shr_and_one w (e % 64)))

-- by the number of its word
pub read-bar-by : (words bars : List ℕ) (n e m w : ℕ) → bars_of words n ≡ bars → n ≤ 16 * length words → e < length bars
    → m ≡ word_of e
    → w ≡ get_or words m w → slice_get bars e ≡ Some (bit_and (w / 2 ^ (e % 64)) 1)
read-bar-by words bars n e m w is room within at =
    subst (λ x. w ≡ get_or words x w → slice_get bars e ≡ Some (bit_and (w / 2 ^ (e % 64)) 1)) (sym at)
    (read-bar words bars n e w is room within)

-- a bit by itself, turned by `^`
flip : (b : ℕ) → b < 2 → (b + 1) % 2 ≡ 1 - b
flip b low = elim (cases b low) [ inl none ↦ rw none refl | inr one ↦ rw one refl ]
  where
    cases : (b : ℕ) → b < 2 → (b ≡ 0) ⊎ (b ≡ 1)
    cases b low = grind (arith, nat_tests)

keep : (b : ℕ) → b < 2 → (b + 0) % 2 ≡ b
keep b low = elim (cases b low) [ inl none ↦ rw none refl | inr one ↦ rw one refl ]
  where
    cases : (b : ℕ) → b < 2 → (b ≡ 0) ⊎ (b ≡ 1)
    cases b low = grind (arith, nat_tests)

bit-turned : (w k : ℕ) → bit_at (bit_xor w (2 ^ k)) k ≡ 1 - bit_at w k
bit-turned w k =
    bit_at_xor w (2 ^ k) k ∙ ap (λ b. (bit_at w k + b) % 2) (bit_at-pow_same k) ∙ flip (bit_at w k) (bit_at-lt w k)

bit-kept : (w k i : ℕ) → i ≢ k → bit_at (bit_xor w (2 ^ k)) i ≡ bit_at w i
bit-kept w k i other =
    bit_at_xor w (2 ^ k) i ∙ ap (λ b. (bit_at w i + b) % 2) (bit_at-pow_other k i other)
    ∙ keep (bit_at w i) (bit_at-lt w i)

apart : (i e : ℕ) → i ≢ e → word_of i ≡ word_of e → i % 64 ≢ e % 64
apart i e other word bit = other (omega arith)

-- the words after one bit was turned
abbrev after : List ℕ → ℕ → List ℕ
after words e = set words (word_of e) (bit_xor (get_or words (word_of e) 0) (2 ^ (e % 64)))

bar-turned : (words : List ℕ) (e : ℕ) → word_of e < length words → bar_in (after words e) e ≡ 1 - bar_in words e
bar-turned words e there =
    let word = get_or words (word_of e) 0 in
    ap (λ x. bit_at x (e % 64)) (get_or-set_same words (word_of e) (bit_xor word (2 ^ (e % 64))) 0 there)
    ∙ bit-turned word (e % 64)

bar-kept : (words : List ℕ) (e i : ℕ) → word_of e < length words → i ≢ e → bar_in (after words e) i ≡ bar_in words i
bar-kept words e i there other = by_word (eqb_tells (word_of i) (word_of e))
  where
    by_word : ((((word_of i) == (word_of e)) ≡ true) × (word_of i ≡ word_of e))
        ⊎ ((((word_of i) == (word_of e)) ≡ false) × (word_of i ≢ word_of e))
        → bar_in (after words e) i ≡ bar_in words i
    by_word (inl same) =
        let word = get_or words (word_of e) 0 in
        let read : get_or (after words e) (word_of i) 0 ≡ bit_xor word (2 ^ (e % 64)) =
        ap (λ x. get_or (after words e) x 0) same.1 ∙ get_or-set_same words
        (word_of e) (bit_xor word (2 ^ (e % 64))) 0 there in
        ap (λ x. bit_at x (i % 64)) read ∙ bit-kept word (e % 64) (i % 64) (apart i e other same.1)
        ∙ ap (λ x. bit_at (get_or words x 0) (i % 64)) (sym same.1)
    by_word (inr apart) = ap (λ x. bit_at x (i % 64)) (get_or-set_other words (word_of e) (word_of i)
        (bit_xor (get_or words (word_of e) 0) (2 ^ (e % 64))) 0 apart.1)

bars-turned : (words : List ℕ) (n e : ℕ) → n ≤ 16 * length words → e < n
    → bars_of (after words e) n ≡ set (bars_of words n) e (1 - bar_in words e)
bars-turned words n e room within =
    sym (fill_by_all (bar_in (after words e)) (set (bars_of words n) e (1 - bar_in words e)) n 0
    (length-set (bars_of words n) e (1 - bar_in words e) ∙ length-bars words n) (λ i low. each i low (eqb_tells i e)))
  where
    there : word_of e < length words
    there = omega arith

    each : (i : ℕ) → i < n → (((i == e) ≡ true) × (i ≡ e)) ⊎ (((i == e) ≡ false) × (i ≢ e))
        → get_or (set (bars_of words n) e (1 - bar_in words e)) i 0 ≡ bar_in (after words e) i
    each i low (inl same) =
        let long : e < length (bars_of words n) = omega (arith, length-bars words n) in
        ap (λ x. get_or (set (bars_of words n) e (1 - bar_in words e)) x 0) same.1
        ∙ get_or-set_same (bars_of words n) e (1 - bar_in words e) 0 long
        ∙ sym (bar-turned words e there) ∙ ap (bar_in (after words e)) (sym same.1)
    each i low (inr other) =
        get_or-set_other (bars_of words n) e i (1 - bar_in words e) 0 other.1 ∙ get_or-bars words n i 0 low
        ∙ sym (bar-kept words e i there other.1)

-- what the code writes
turn-bar : (words bars : List ℕ) (n e w : ℕ) → bars_of words n ≡ bars → n ≤ 16 * length words → e < length bars
    → w ≡ get_or words (word_of e) w
    → turned bars e ≡ Some (bars_of (set words (word_of e) (bit_xor w (1 * 2 ^ (e % 64) % 2 ^ 64))) n)
turn-bar words bars n e w is room within found =
    let word = word-read words bars n e w is room within found in
    let there : e < n = omega (arith, length-bars words n, ap length is) in
    let bit : e % 64 < 64 = omega arith in
    let mask : 1 * 2 ^ (e % 64) % 2 ^ 64 ≡ 2 ^ (e % 64) = one_shl (e % 64) 64 bit in
    let read : slice_get bars e ≡ Some (bar_in words e) = ap (λ bs. slice_get bs e) (sym is)
    ∙ slice_get-bars words n e there in
    let written : set words (word_of e) (bit_xor w (1 * 2 ^ (e % 64) % 2 ^ 64)) ≡ after words e =
    ap (λ m. set words (word_of e) (bit_xor w m)) mask ∙ ap
    (λ x. set words (word_of e) (bit_xor x (2 ^ (e % 64)))) (sym word) in
    rw read (ap Some (ap (λ bs. set bs e (1 - bar_in words e)) (sym is) ∙ sym (bars-turned words n e room there)
    ∙ ap (λ ws. bars_of ws n) (sym written)))

pub turn-bar-by : (words bars : List ℕ) (n e m w : ℕ) → bars_of words n ≡ bars → n ≤ 16 * length words → e < length bars
    → m ≡ word_of e
    → w ≡ get_or words m w
    → turned bars e ≡ Some (bars_of (set words m (bit_xor w (1 * 2 ^ (e % 64) % 2 ^ 64))) n)
turn-bar-by words bars n e m w is room within at =
    subst (λ x. w ≡ get_or words x w
    → turned bars e ≡ Some (bars_of (set words x (bit_xor w (1 * 2 ^ (e % 64) % 2 ^ 64))) n)) (sym at)
    (turn-bar words bars n e w is room within)

-- words of zeros
pub bars-zero : (m n : ℕ) → bars_of (replicate m 0) n ≡ replicate n 0
bars-zero m n = sym (fill_by_all (bar_in (replicate m 0)) (replicate n 0) n 0 (length-replicate n 0)
    (λ k low. get_or-replicate n k 0 0 low ∙ sym (zero_bar k)))
  where
    zero_word : (j : ℕ) → (j < m) ⊎ (m ≤ j) → get_or (replicate {A = ℕ} m 0) j 0 ≡ 0
    zero_word j (inl low) = get_or-replicate m j 0 0 low
    zero_word j (inr high) = get_or_past (replicate m 0) j 0 (omega (arith, length-replicate {A = ℕ} m 0))

    cases : (j : ℕ) → (j < m) ⊎ (m ≤ j)
    cases j = grind (arith, nat_tests)

    zero_bar : (k : ℕ) → bar_in (replicate m 0) k ≡ 0
    zero_bar k = ap (λ x. bit_at x (k % 64)) (zero_word (word_of k) (cases (word_of k))) ∙ bit_at-zero (k % 64)

-- how many bars there are
pub count-bars : (words bars : List ℕ) (n : ℕ) → bars_of words n ≡ bars → length bars ≡ n
count-bars words bars n is = ap length (sym is) ∙ length-bars words n

-- one state more
pub state-pushed : (bars states after : List ℕ) (e q : ℕ) → states ≡ take e bars → slice_get bars e ≡ Some q
    → after ≡ states ++ q ∷ []
    → after ≡ take (e + 1) bars
state-pushed bars states after e q so_far has pushed =
    let here : get_or bars e q ≡ q = get_or_from_slice_get bars e q q has in
    let more : take (e + 1) bars ≡ take e bars ++ get_or bars e q ∷ [] =
    take_more bars e q (slice_get_within bars e q has) in
    pushed ∙ ap (λ s. s ++ q ∷ []) so_far ∙ ap (λ x. take e bars ++ x ∷ []) (sym here) ∙ sym more
