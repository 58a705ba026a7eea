-- The first and the last cell that are shown of a tape.
use Rattle.std.specs.Prelude.{◌≡◌, ◌≢◌, ℕ, zero, suc, ◌<◌, ◌≤◌, ◌⊎◌, ℤ, pos, negsuc, ◌≤ℤ◌, ◌<ℤ◌}
use Rattle.std.specs.Prelude.{List, length, All, Bool, true, false, refl}
use Rattle.std.proofs.Common.{arith, inl, inr, sym, ap, ◌∙◌}
use Rattle.std.proofs.lemmas.Int.{ints}
use Rattle.std.specs.Ordering.{int_eq}
use Rattle.std.proofs.lemmas.Bool.{cases_lt, true≢false}
use Rattle.std.proofs.lemmas.Bool.Decides.{Decides-int_eq}
use Rattle.std.proofs.lemmas.List.{get_or_past}
use Rattle.bn_machine.specs.Tape.{Tape, cell, letter_at, word_tape}
use Rattle.bn_machine.proofs.TapeLemmas.{cell-word}
use Rattle.bn_reply_traces.specs.Extents.{IsFirst, IsLast, IsMarked}
use Rattle.bn_reply_traces.specs.Stages.{IsMoved}

-- two positions are one, or not
pub same_or_not : (p q : ℤ) → (p ≡ q) ⊎ (p ≢ q)
same_or_not p q = by (int_eq p q) refl
  where
    by : (b : Bool) → int_eq p q ≡ b → (p ≡ q) ⊎ (p ≢ q)
    by true is = inl ((Decides-int_eq p q).0 is)
    by false is = inr (λ e. true≢false (sym ((Decides-int_eq p q).1 e) ∙ is))

-- ---- a word

not_marked_before : (word : List ℕ) (k : ℕ) → IsMarked (word_tape word) (negsuc k) → ⊥
not_marked_before word k (inl h) = h (cell-word word (negsuc k))
not_marked_before word k (inr e) = absurd (omega (arith, ints, e))

pub first_of_word : (word : List ℕ) → IsFirst (word_tape word) (pos 0)
first_of_word word = record { stands = inr refl; least = by }
  where
    by : (q : ℤ) → IsMarked (word_tape word) q → pos 0 ≤ℤ q
    by (pos k) h = omega (arith, ints)
    by (negsuc k) h = absurd (not_marked_before word k h)

pub letter_within : (word : List ℕ) (k : ℕ) → letter_at word (pos (suc k)) ≢ 0 → k < length word
letter_within word k h = by (cases_lt k (length word))
  where
    by : (k < length word) ⊎ (length word ≤ k) → k < length word
    by (inl inside) = inside
    by (inr past) = absurd (h (get_or_past word k 0 past))

pub marked_within : (word : List ℕ) (q : ℤ) → IsMarked (word_tape word) q → q ≤ℤ pos (length word)
marked_within word (negsuc k) h = omega (arith, ints)
marked_within word (pos zero) h = omega (arith, ints)
marked_within word (pos (suc k)) (inl h) =
    let inside : k < length word = letter_within word k (λ e. h (cell-word word (pos (suc k)) ∙ e)) in
    omega (arith, ints)
marked_within word (pos (suc k)) (inr e) = absurd (omega (arith, ints, e))

ends_marked : (word : List ℕ) (n : ℕ) → n ≡ length word → All (λ s. s ≢ 0) word → IsMarked (word_tape word) (pos n)
ends_marked word zero is letters = inr refl
ends_marked word (suc k) is letters =
    let inside : k < length word = omega (arith, is) in
    inl (λ e. letters k 0 inside (sym (cell-word word (pos (suc k))) ∙ e))

pub last_of_word : (word : List ℕ) → All (λ s. s ≢ 0) word → IsLast (word_tape word) (pos (length word))
last_of_word word letters = record {
  stands = ends_marked word (length word) refl letters;
  greatest = marked_within word;
}

-- ---- a step

-- what is marked elsewhere was marked before
was_marked : (t u : Tape) (left head q : ℤ) (is_blank : Bool) → IsMoved t u left is_blank head → q ≢ left →
    cell u q ≢ 0 → IsMarked t q
was_marked t u left head q is_blank m apart h = inl (λ e. h (m.beside q apart ∙ e))

-- the head left a blank at the first cell
pub first_left : (t u : Tape) (first left head : ℤ) (is_blank : Bool) → IsMoved t u left is_blank head →
    IsFirst t first → is_blank ≡ true → first ≡ left → IsFirst u head
first_left t u first left head is_blank m f blank at = record { stands = inr (sym m.to); least = by }
  where
    by : (q : ℤ) → IsMarked u q → head ≤ℤ q
    by q (inr e) = let h : q ≡ head = e ∙ m.to in omega (arith, ints, h)
    by q (inl h) =
        let apart : q ≢ left = λ e. h (ap (cell u) e ∙ m.blank.0 blank) in
        let low : first ≤ℤ q = f.least q (was_marked t u left head q is_blank m apart h) in
        let near = m.near.1 in
        omega (arith, ints, low, near, at, apart)

-- the head has come before the first cell
pub first_before : (t u : Tape) (first left head : ℤ) (is_blank : Bool) → IsMoved t u left is_blank head →
    IsFirst t first → head <ℤ first → IsFirst u head
first_before t u first left head is_blank m f before = record { stands = inr (sym m.to); least = by }
  where
    at_left : first ≤ℤ left
    at_left = f.least left (inr (sym m.from))

    by : (q : ℤ) → IsMarked u q → head ≤ℤ q
    by q (inr e) = let h : q ≡ head = e ∙ m.to in omega (arith, ints, h)
    by q (inl h) = by_place (same_or_not q left)
      where
        by_place : (q ≡ left) ⊎ (q ≢ left) → head ≤ℤ q
        by_place (inl e) = omega (arith, ints, e, at_left, before)
        by_place (inr apart) =
            let low : first ≤ℤ q = f.least q (was_marked t u left head q is_blank m apart h) in
            omega (arith, ints, low, before)

-- else it stays
pub first_stays : (t u : Tape) (first left head : ℤ) (is_blank : Bool) → IsMoved t u left is_blank head →
    IsFirst t first → (is_blank ≡ false) ⊎ (first ≢ left) → first ≤ℤ head → IsFirst u first
first_stays t u first left head is_blank m f kept low = record { stands = stands kept; least = by }
  where
    stays : first ≢ left → IsMarked t first → IsMarked u first
    stays apart (inl h) = inl (λ e. h (sym (m.beside first apart) ∙ e))
    stays apart (inr e) = absurd (apart (e ∙ m.from))

    at : IsMarked t first → (is_blank ≡ false) → (first ≡ left) ⊎ (first ≢ left) → IsMarked u first
    at h lettered (inr apart) = stays apart h
    at h lettered (inl e) = inl (λ z. absurd (cc (lettered, m.blank.1 (ap (cell u) (sym e) ∙ z))))

    stands : (is_blank ≡ false) ⊎ (first ≢ left) → IsMarked u first
    stands (inl lettered) = at f.stands lettered (same_or_not first left)
    stands (inr apart) = stays apart f.stands

    at_left : first ≤ℤ left
    at_left = f.least left (inr (sym m.from))

    by : (q : ℤ) → IsMarked u q → first ≤ℤ q
    by q (inr e) = let h : q ≡ head = e ∙ m.to in omega (arith, ints, h, low)
    by q (inl h) = by_place (same_or_not q left)
      where
        by_place : (q ≡ left) ⊎ (q ≢ left) → first ≤ℤ q
        by_place (inl e) = omega (arith, ints, e, at_left)
        by_place (inr apart) = f.least q (was_marked t u left head q is_blank m apart h)

pub last_left : (t u : Tape) (last left head : ℤ) (is_blank : Bool) → IsMoved t u left is_blank head →
    IsLast t last → is_blank ≡ true → last ≡ left → IsLast u head
last_left t u last left head is_blank m f blank at = record { stands = inr (sym m.to); greatest = by }
  where
    by : (q : ℤ) → IsMarked u q → q ≤ℤ head
    by q (inr e) = let h : q ≡ head = e ∙ m.to in omega (arith, ints, h)
    by q (inl h) =
        let apart : q ≢ left = λ e. h (ap (cell u) e ∙ m.blank.0 blank) in
        let high : q ≤ℤ last = f.greatest q (was_marked t u left head q is_blank m apart h) in
        let near = m.near.0 in
        omega (arith, ints, high, near, at, apart)

pub last_behind : (t u : Tape) (last left head : ℤ) (is_blank : Bool) → IsMoved t u left is_blank head →
    IsLast t last → last <ℤ head → IsLast u head
last_behind t u last left head is_blank m f behind = record { stands = inr (sym m.to); greatest = by }
  where
    at_left : left ≤ℤ last
    at_left = f.greatest left (inr (sym m.from))

    by : (q : ℤ) → IsMarked u q → q ≤ℤ head
    by q (inr e) = let h : q ≡ head = e ∙ m.to in omega (arith, ints, h)
    by q (inl h) = by_place (same_or_not q left)
      where
        by_place : (q ≡ left) ⊎ (q ≢ left) → q ≤ℤ head
        by_place (inl e) = omega (arith, ints, e, at_left, behind)
        by_place (inr apart) =
            let high : q ≤ℤ last = f.greatest q (was_marked t u left head q is_blank m apart h) in
            omega (arith, ints, high, behind)

pub last_stays : (t u : Tape) (last left head : ℤ) (is_blank : Bool) → IsMoved t u left is_blank head →
    IsLast t last → (is_blank ≡ false) ⊎ (last ≢ left) → head ≤ℤ last → IsLast u last
last_stays t u last left head is_blank m f kept high = record { stands = stands kept; greatest = by }
  where
    stays : last ≢ left → IsMarked t last → IsMarked u last
    stays apart (inl h) = inl (λ e. h (sym (m.beside last apart) ∙ e))
    stays apart (inr e) = absurd (apart (e ∙ m.from))

    at : IsMarked t last → (is_blank ≡ false) → (last ≡ left) ⊎ (last ≢ left) → IsMarked u last
    at h lettered (inr apart) = stays apart h
    at h lettered (inl e) = inl (λ z. absurd (cc (lettered, m.blank.1 (ap (cell u) (sym e) ∙ z))))

    stands : (is_blank ≡ false) ⊎ (last ≢ left) → IsMarked u last
    stands (inl lettered) = at f.stands lettered (same_or_not last left)
    stands (inr apart) = stays apart f.stands

    at_left : left ≤ℤ last
    at_left = f.greatest left (inr (sym m.from))

    by : (q : ℤ) → IsMarked u q → q ≤ℤ last
    by q (inr e) = let h : q ≡ head = e ∙ m.to in omega (arith, ints, h, high)
    by q (inl h) = by_place (same_or_not q left)
      where
        by_place : (q ≡ left) ⊎ (q ≢ left) → q ≤ℤ last
        by_place (inl e) = omega (arith, ints, e, at_left)
        by_place (inr apart) = f.greatest q (was_marked t u left head q is_blank m apart h)
