-- What follows from how numbers are written: readers of texts cite these.
use Rattle.std.proofs.Common.{◌≡◌, ◌≢◌, ◌↔◌, ℕ, zero, suc, ◌+◌, ◌^◌, ◌<◌, ◌≤◌, List, [], ◌∷◌, ◌++◌, length, take, drop}
use Rattle.std.proofs.Common.{get_or, refl, sym, add-zero, ◌∙◌, ap, arith, Bool, true, false, Result, Ok, Err}
use Rattle.std.proofs.Common.{length-append}
use Rattle.std.specs.Prelude.{◌==◌, ◌&&◌, nat_lt, IfOk, take_while, slice_index, decimal, if◌then◌else◌}
use Rattle.std.specs.List.{prefix_len}
use Rattle.std.specs.Char.{is_ascii_digit, IsAsciiDigit}
use Rattle.std.specs.Str.Parse.{digits_value}
use Rattle.std.proofs.lemmas.Bool.Decides.{nat_tests}
use Rattle.std.proofs.lemmas.Str.Parse.{IsNumeralModel, numerals_by_value, tells_by_index}
use Rattle.std.proofs.lemmas.Fmt.{decimal-digits_value, digits_decimal, digits_value-decimal, decimal_nonempty}
use Rattle.std.proofs.lemmas.Fmt.{decimal_digit, first_decimal, decimal_injective}
use Rattle.std.proofs.lemmas.List.{get_or-take, get_or_append_left, get_or-append-add, take-append-drop, drop-drop}
use Rattle.std.proofs.lemmas.List.Sums.{prefix_len_passes, prefix_len_is}
use Rattle.std.proofs.lemmas.List.Folds.{length-prefix_len}
use Rattle.std.proofs.Math.Seq.{drop-append_seam, take-append_seam}
use Rattle.bn_base.specs.declared.numbers.Digits.{Digits}
use Rattle.bn_base.specs.declared.numbers.Digits.TheVariants.{NoDigit, LeadingZero, TooLarge}
use Rattle.bn_base.specs.Number.{greatest, digits_at, HasLeadingZero, IsTooLarge, AreDigits, BeginsWithNoDigit}
use Rattle.bn_base.specs.Number.{number_of, with_place, read_number, WhatIsReadIsSpelled, WhatIsSpelledIsRead}
use Rattle.bn_base.specs.Number.{SpellingsDiffer}

own : IsNumeralModel AreDigits (digits_value 10)
own = numerals_by_value AreDigits tells_by_index

pub digit_is : (byte : ℕ) → is_ascii_digit byte ≡ true → IsAsciiDigit byte
digit_is byte h = grind (arith, nat_tests)

pub digit_test : (byte : ℕ) → IsAsciiDigit byte → is_ascii_digit byte ≡ true
digit_test byte h = grind (arith, nat_tests)

-- the run at the front is made of digits
front_digits : (bytes : List ℕ) → AreDigits (take_while is_ascii_digit bytes)
front_digits bytes k h =
    let l : k < prefix_len is_ascii_digit bytes = omega (arith, length-prefix_len is_ascii_digit bytes) in
    let same = get_or-take (prefix_len is_ascii_digit bytes) bytes k 0 l in
    digit_is _ (ap is_ascii_digit same ∙ prefix_len_passes is_ascii_digit bytes k 0 l)

-- the run at a place is made of digits
pub digits_at-digits : (bytes : List ℕ) (place : ℕ) → AreDigits (digits_at bytes place)
digits_at-digits bytes place = front_digits (drop place bytes)

-- what stands from a place on is the run and what is behind it
pub digits_at-split : (bytes : List ℕ) (place : ℕ) → drop place bytes
    ≡ digits_at bytes place ++ drop (place + length (digits_at bytes place)) bytes
digits_at-split bytes place =
    let k = prefix_len is_ascii_digit (drop place bytes) in
    let l : length (digits_at bytes place) ≡ k = length-prefix_len is_ascii_digit (drop place bytes) in
    sym (take-append-drop k (drop place bytes))
    ∙ ap (λ s. digits_at bytes place ++ s) (drop-drop k place bytes ∙ ap (λ n. drop (place + n) bytes) (sym l))

-- digits in front of what begins with no digit are the run
pub run-front : (digits rest : List ℕ) → AreDigits digits → BeginsWithNoDigit rest
    → take_while is_ascii_digit (digits ++ rest) ≡ digits
run-front digits rest are ends =
    let l : length digits ≤ length (digits ++ rest) = omega (arith, length-append digits rest) in
    let passes : (k : ℕ) → k < length digits → is_ascii_digit (get_or (digits ++ rest) k 0) ≡ true =
    λ k h. ap is_ascii_digit (get_or_append_left digits rest 0 k h) ∙ digit_test _ (are k h)
    in
    let stops : length digits < length (digits ++ rest) → is_ascii_digit (get_or (digits ++ rest) (length digits) 0)
    ≡ false =
    λ h.
    let seam : get_or (digits ++ rest) (length digits) 0 ≡ get_or rest 0 0 =
    ap (λ k. get_or (digits ++ rest) k 0) (sym (add-zero (length digits))) ∙ get_or-append-add digits rest 0 0
    in
    ap is_ascii_digit seam ∙ ends (omega (arith, length-append digits rest))
    in
    ap (λ k. take k (digits ++ rest)) (prefix_len_is is_ascii_digit (digits ++ rest) (length digits) 0 l passes stops)
    ∙ take-append_seam digits rest

-- the answer of three tests, tried in order
abbrev tested : Bool → Bool → Bool → ℕ → Result ℕ Digits
tested none leading large value = if none then Err NoDigit else if leading then Err LeadingZero else if large then Err
    TooLarge else Ok value

tested-ok : (a b c : Bool) (v n : ℕ) → tested a b c v ≡ Ok n → (a ≡ false) × (b ≡ false) × (c ≡ false) × (v ≡ n)
tested-ok true b c v n e = cc
tested-ok false true c v n e = cc
tested-ok false false true v n e = cc
tested-ok false false false v n e = (refl, refl, refl, cc)

tested-no_digit : (a b c : Bool) (v : ℕ) → tested a b c v ≡ Err NoDigit ↔ (a ≡ true)
tested-no_digit true b c v = (λ e. refl, λ e. refl)
tested-no_digit false true c v = (λ e. cc, λ e. cc)
tested-no_digit false false true v = (λ e. cc, λ e. cc)
tested-no_digit false false false v = (λ e. cc, λ e. cc)

tested-leading : (a b c : Bool) (v : ℕ) → tested a b c v ≡ Err LeadingZero ↔ ((a ≡ false) × (b ≡ true))
tested-leading true b c v = (λ e. cc, λ e. let h = e.0 in cc)
tested-leading false true c v = (λ e. (refl, refl), λ e. refl)
tested-leading false false true v = (λ e. cc, λ e. let h = e.1 in cc)
tested-leading false false false v = (λ e. cc, λ e. let h = e.1 in cc)

tested-large : (a b c : Bool) (v : ℕ) → tested a b c v ≡ Err TooLarge ↔ ((a ≡ false) × (b ≡ false) × (c ≡ true))
tested-large true b c v = (λ e. cc, λ e. let h = e.0 in cc)
tested-large false true c v = (λ e. cc, λ e. let h = e.1 in cc)
tested-large false false true v = (λ e. (refl, refl, refl), λ e. refl)
tested-large false false false v = (λ e. cc, λ e. let h = e.2 in cc)

is_none : (digits : List ℕ) → length digits == 0 ≡ true → digits ≡ []
is_none [] e = refl
is_none (x ∷ xs) e = absurd (grind (arith, nat_tests))

some_is : (digits : List ℕ) → length digits == 0 ≡ false → digits ≢ []
some_is digits e is = let l : length digits ≡ 0 = ap length is in absurd (grind (arith, nat_tests))

is_some : (digits : List ℕ) → digits ≢ [] → length digits == 0 ≡ false
is_some [] e = absurd (e refl)
is_some (x ∷ xs) e = grind (arith, nat_tests)

leads : (digits : List ℕ) → (nat_lt 1 (length digits) && slice_index digits 0 == 48) ≡ true → HasLeadingZero digits
leads digits e = grind (arith, nat_tests)

leads_test : (digits : List ℕ) → HasLeadingZero digits → (nat_lt 1 (length digits) && slice_index digits 0 == 48) ≡ true
leads_test digits h = grind (arith, nat_tests)

leads_not : (digits : List ℕ) → (nat_lt 1 (length digits) && slice_index digits 0 == 48) ≡ false
    → ¬ HasLeadingZero digits
leads_not digits e h = let t = leads_test digits h in cc

leads_test_not : (digits : List ℕ) → ¬ HasLeadingZero digits
    → (nat_lt 1 (length digits) && slice_index digits 0 == 48) ≡ false
leads_test_not digits n = elim (nat_lt 1 (length digits) && slice_index digits 0 == 48) as
    (λ b. ((nat_lt 1 (length digits) && slice_index digits 0 == 48) ≡ b) → b ≡ false)
    [ true ↦ λ e. absurd (n (leads digits e)) | false ↦ λ e. refl ] refl

-- when each fault comes
pub number_of-no_digit : (digits : List ℕ) → number_of digits ≡ Err NoDigit ↔ (digits ≡ [])
unfolding number_of
number_of-no_digit digits =
    let t = tested-no_digit (length digits == 0) (nat_lt 1 (length digits) && slice_index digits 0 == 48)
    (nat_lt greatest (digits_value 10 digits)) (digits_value 10 digits) in
    (λ e. is_none digits (t.0 e), λ e. t.1 (ap (λ s. length s == 0) e))

pub number_of-leading_zero : (digits : List ℕ) → number_of digits ≡ Err LeadingZero ↔ HasLeadingZero digits
unfolding number_of
number_of-leading_zero digits =
    let t = tested-leading (length digits == 0) (nat_lt 1 (length digits) && slice_index digits 0 == 48)
    (nat_lt greatest (digits_value 10 digits)) (digits_value 10 digits) in (
      λ e. leads digits (t.0 e).1,
      λ h. t.1 (
        is_some digits (λ e. let l : length digits ≡ 0 = ap length e in absurd (let m = h.0 in omega arith)),
        leads_test digits h,
      ),
    )

pub number_of-too_large : (digits : List ℕ) → number_of digits ≡ Err TooLarge ↔ IsTooLarge digits
unfolding number_of
number_of-too_large digits =
    let t = tested-large (length digits == 0) (nat_lt 1 (length digits) && slice_index digits 0 == 48)
    (nat_lt greatest (digits_value 10 digits)) (digits_value 10 digits) in (
      λ e. let h = t.0 e in (some_is digits h.0, leads_not digits h.1, let k = h.2 in grind (arith, nat_tests)),
      λ h. t.1 (is_some digits h.0, leads_test_not digits h.1, let k = h.2 in grind (arith, nat_tests)),
    )

-- a run that spells a number is its decimal text
pub number_of-spelled : (digits : List ℕ) (n : ℕ) → AreDigits digits → number_of digits ≡ Ok n
    → (n ≤ greatest) × (digits_value 10 digits ≡ n) × (decimal n ≡ digits)
unfolding number_of
number_of-spelled digits n are e =
    let t = tested-ok _ _ _ _ _ e in
    let some : 0 < length digits = let h = t.0 in grind (arith, nat_tests) in
    let single : get_or digits 0 0 ≡ 48 → length digits ≡ 1 = let h = t.1 in λ first. grind (arith, nat_tests) in
    let small : digits_value 10 digits ≤ 2 ^ 62 = let h = t.2 in grind (arith, nat_tests) in
    let text : decimal (digits_value 10 digits) ≡ digits = decimal-digits_value own digits are some single (omega arith)
    in
    (omega arith, t.3, ap decimal (sym t.3) ∙ text)

tested-is : (a b c : Bool) (v : ℕ) → a ≡ false → b ≡ false → c ≡ false → tested a b c v ≡ Ok v
tested-is a b c v e f g = rw (e, f, g) refl

-- no decimal text of two digits or more begins with a zero
decimal-leads_not : (n : ℕ) → n < 2 ^ 64 → ¬ HasLeadingZero (decimal n)
decimal-leads_not zero h z = let e = ap length (decimal_digit 0 (omega arith)) in let m = z.0 in absurd (omega arith)
decimal-leads_not (suc n) h z = let f = first_decimal (suc n) (omega arith) h in let m = z.1 in absurd (omega arith)

-- the decimal text of a number spells it
pub number_of-decimal : (n : ℕ) → n ≤ greatest → number_of (decimal n) ≡ Ok n
unfolding number_of
number_of-decimal n small =
    let h : n < 2 ^ 64 = omega arith in
    let value : digits_value 10 (decimal n) ≡ n = digits_value-decimal own n h in
    let some : 0 < length (decimal n) = decimal_nonempty n h in
    let first : (nat_lt 1 (length (decimal n)) && slice_index (decimal n) 0 == 48) ≡ false =
    leads_test_not (decimal n) (λ z. decimal-leads_not n h z) in
    let none : length (decimal n) == 0 ≡ false = grind (arith, nat_tests) in
    let large : nat_lt greatest (digits_value 10 (decimal n)) ≡ false = rw value (grind (arith, nat_tests)) in
    tested-is _ _ _ (digits_value 10 (decimal n)) none first large ∙ ap (λ v. Ok v) value

-- a number with the place behind it is that number
with_place-ok : (place : ℕ) (r : Result ℕ Digits) (n behind : ℕ) → with_place place r ≡ Ok (n, behind)
    → (r ≡ Ok n) × (behind ≡ place)
with_place-ok place (Ok m) n behind e = let f : ◌≡◌ {A = ℕ × ℕ} (m, place) (n, behind) =
    cc in (ap (λ p. Ok p.0) f, sym (ap (λ p. p.1) f))
with_place-ok place (Err fault) n behind e = cc

with_place-fault : (place : ℕ) (r : Result ℕ Digits) (fault : Digits) → with_place place r ≡ Err fault ↔ (r ≡ Err fault)
with_place-fault place (Ok n) fault = (λ e. cc, λ e. cc)
with_place-fault place (Err other) fault = (λ e. cc, λ e. cc)

-- when each fault of reading comes
pub read_number-no_digit : (bytes : List ℕ) (place : ℕ) → read_number bytes place ≡ Err NoDigit
    ↔ (digits_at bytes place ≡ [])
unfolding read_number
read_number-no_digit bytes place =
    let w = with_place-fault (place + length (digits_at bytes place)) (number_of (digits_at bytes place)) NoDigit in
    let t = number_of-no_digit (digits_at bytes place) in
    (λ e. t.0 (w.0 e), λ e. w.1 (t.1 e))

pub read_number-leading_zero : (bytes : List ℕ) (place : ℕ) → read_number bytes place ≡ Err LeadingZero
    ↔ HasLeadingZero (digits_at bytes place)
unfolding read_number
read_number-leading_zero bytes place =
    let w = with_place-fault (place + length (digits_at bytes place)) (number_of (digits_at bytes place)) LeadingZero in
    let t = number_of-leading_zero (digits_at bytes place) in
    (λ e. t.0 (w.0 e), λ e. w.1 (t.1 e))

pub read_number-too_large : (bytes : List ℕ) (place : ℕ) → read_number bytes place ≡ Err TooLarge
    ↔ IsTooLarge (digits_at bytes place)
unfolding read_number
read_number-too_large bytes place =
    let w = with_place-fault (place + length (digits_at bytes place)) (number_of (digits_at bytes place)) TooLarge in
    let t = number_of-too_large (digits_at bytes place) in
    (λ e. t.0 (w.0 e), λ e. w.1 (t.1 e))

-- what is read is the value of the run
pub read_number-value : (bytes : List ℕ) (place n behind : ℕ) → read_number bytes place ≡ Ok (n, behind)
    → (n ≡ digits_value 10 (digits_at bytes place)) × (behind ≡ place + length (digits_at bytes place))
unfolding read_number
read_number-value bytes place n behind e =
    let p = with_place-ok (place + length (digits_at bytes place)) (number_of (digits_at bytes place)) n behind e in
    let t = number_of-spelled (digits_at bytes place) n (digits_at-digits bytes place) p.0 in
    (sym t.1, p.1)

-- what is read at a place is spelled there
pub read_number-takes : WhatIsReadIsSpelled
unfolding read_number
read_number-takes bytes place n behind e =
    let p = with_place-ok (place + length (digits_at bytes place)) (number_of (digits_at bytes place)) n behind e in
    let t = number_of-spelled (digits_at bytes place) n (digits_at-digits bytes place) p.0 in
    let split = digits_at-split bytes place in
    let end : behind ≡ place + length (digits_at bytes place) = p.1 in (
      t.0,
      end ∙ ap (λ s. place + length s) (sym t.2),
      split ∙ ap
          (λ s. s ++ drop (place + length (digits_at bytes place)) bytes) (sym t.2)
          ∙ ap (λ k. decimal n ++ drop k bytes) (sym end),
    )

-- what is spelled is read back
pub read_number-again : WhatIsSpelledIsRead
unfolding read_number
read_number-again front rest n small ends =
    let h : n < 2 ^ 64 = omega arith in
    let run : digits_at (front ++ (decimal n ++ rest)) (length front) ≡ decimal n =
    ap (λ s. take_while is_ascii_digit s) (drop-append_seam front (decimal n ++ rest))
    ∙ run-front (decimal n) rest (digits_decimal own n h) ends
    in
    ap (λ s. with_place (length front + length s) (number_of s)) run
    ∙ ap (λ r. with_place (length front + length (decimal n)) r) (number_of-decimal n small)

-- each number has one spelling
pub decimal-once : SpellingsDiffer
decimal-once m n small_m small_n e = decimal_injective m n (omega arith) (omega arith) e

-- the clauses of a reading, for its result
pub reading-value : (bytes : List ℕ) (place : ℕ) (r : Result (ℕ × ℕ) Digits) → r ≡ read_number bytes place
    → IfOk r (λ read. read.0 ≡ digits_value 10 (digits_at bytes place))
reading-value bytes place (Ok read) e = (read_number-value bytes place read.0 read.1 (sym e)).0
reading-value bytes place (Err fault) e = tt

pub reading-bound : (bytes : List ℕ) (place : ℕ) (r : Result (ℕ × ℕ) Digits) → r ≡ read_number bytes place
    → IfOk r (λ read. read.0 ≤ greatest)
reading-bound bytes place (Ok read) e = (read_number-takes bytes place read.0 read.1 (sym e)).0
reading-bound bytes place (Err fault) e = tt

pub reading-behind : (bytes : List ℕ) (place : ℕ) (r : Result (ℕ × ℕ) Digits) → r ≡ read_number bytes place
    → IfOk r (λ read. read.1 ≡ place + length (digits_at bytes place))
reading-behind bytes place (Ok read) e = (read_number-value bytes place read.0 read.1 (sym e)).1
reading-behind bytes place (Err fault) e = tt

pub reading-spelled : (bytes : List ℕ) (place : ℕ) (r : Result (ℕ × ℕ) Digits) → r ≡ read_number bytes place
    → IfOk r (λ read. drop place bytes ≡ decimal read.0 ++ drop read.1 bytes)
reading-spelled bytes place (Ok read) e = (read_number-takes bytes place read.0 read.1 (sym e)).2
reading-spelled bytes place (Err fault) e = tt
