-- How a number is written: its decimal digits, with no sign and no zero in front, so that each number has just
-- one spelling. This is this project's own profile, and numbers above 2^62 are not read.
use Rattle.std.specs.Prelude.{◌≡◌, ◌≢◌, ℕ, ◌+◌, ◌^◌, ◌<◌, ◌≤◌, List, [], ◌++◌, length, drop, take_while, slice_index}
use Rattle.std.specs.Prelude.{◌==◌, nat_lt, ◌&&◌, if◌then◌else◌, Result, Ok, Err, false, decimal}
use Rattle.std.specs.Char.{is_ascii_digit, IsAsciiDigit}
use Rattle.std.specs.Str.Parse.{digits_value}
use Rattle.bn_base.specs.declared.numbers.Digits.{Digits}
use Rattle.bn_base.specs.declared.numbers.Digits.TheVariants.{NoDigit, LeadingZero, TooLarge}

-- the greatest number that is read
abbrev pub greatest : ℕ
greatest = 2 ^ 62

-- the longest run of ASCII digits from this place on
abbrev pub digits_at : List ℕ → ℕ → List ℕ
digits_at bytes place = take_while is_ascii_digit (drop place bytes)

-- the run has two digits or more and begins with a zero
abbrev pub HasLeadingZero : List ℕ → Type 0
HasLeadingZero digits = (1 < length digits) × (slice_index digits 0 ≡ 48)

-- the run has neither of the first two faults, and its value is too large
abbrev pub IsTooLarge : List ℕ → Type 0
IsTooLarge digits = (digits ≢ []) × ¬ HasLeadingZero digits × (greatest < digits_value 10 digits)

-- each of these bytes is an ASCII digit
abbrev pub AreDigits : List ℕ → Type 0
AreDigits digits = (k : ℕ) → k < length digits → IsAsciiDigit (slice_index digits k)

-- what follows a number: nothing, or a byte that is no digit
abbrev pub BeginsWithNoDigit : List ℕ → Type 0
BeginsWithNoDigit bytes = 0 < length bytes → is_ascii_digit (slice_index bytes 0) ≡ false

-- what a run of digits spells, or the first of its faults
unfoldable pub number_of : List ℕ → Result ℕ Digits
number_of digits =
    if length digits == 0 then Err NoDigit
    else if nat_lt 1 (length digits) && slice_index digits 0 == 48 then Err LeadingZero
    else if nat_lt greatest (digits_value 10 digits) then Err TooLarge
    else Ok (digits_value 10 digits)

-- a number with the place after it
abbrev pub with_place : ℕ → Result ℕ Digits → Result (ℕ × ℕ) Digits
with_place place (Ok n) = Ok (n, place)
with_place place (Err fault) = Err fault

-- the number that the digits from this place on spell, with the place after them, or the fault
unfoldable pub read_number : List ℕ → ℕ → Result (ℕ × ℕ) Digits
read_number bytes place = with_place (place + length (digits_at bytes place)) (number_of (digits_at bytes place))

-- A number that is read at a place is at most `greatest`, and the bytes at this place are its decimal text.
abbrev pub WhatIsReadIsSpelled : Type 0
WhatIsReadIsSpelled =
    (bytes : List ℕ) (place n behind : ℕ) → read_number bytes place ≡ Ok (n, behind)
    → (n ≤ greatest) × (behind ≡ place + length (decimal n)) × (drop place bytes ≡ decimal n ++ drop behind bytes)

-- The decimal text of a number of at most `greatest` is read as this number, whatever bytes come before it, if no
-- digit follows it.
abbrev pub WhatIsSpelledIsRead : Type 0
WhatIsSpelledIsRead =
    (front rest : List ℕ) (n : ℕ) → n ≤ greatest → BeginsWithNoDigit rest
    → read_number (front ++ (decimal n ++ rest)) (length front) ≡ Ok (n, length front + length (decimal n))

-- Two numbers with the same decimal text are equal.
abbrev pub SpellingsDiffer : Type 0
SpellingsDiffer = (m n : ℕ) → m ≤ greatest → n ≤ greatest → decimal m ≡ decimal n → m ≡ n
