-- Reading digits into a number.
use Rattle.std.proofs.Common.{◌≡◌, ℕ, ◌+◌, ◌-◌, ◌*◌, ◌<◌, ◌≤◌, List, [], ◌∷◌, drop, length, get_or, sym, add-one, ◌∙◌}
use Rattle.std.proofs.Common.{ap, arith}
use Rattle.std.specs.Char.{digit_value, IsAsciiDigit}
use Rattle.std.specs.Str.Parse.{digits_value_after}
use Rattle.std.proofs.lemmas.Bool.Decides.{nat_tests}
use Rattle.std.proofs.Math.Seq.{drop-cons}

-- a number only grows by digits behind it
after-le : (digits : List ℕ) (n : ℕ) → n ≤ digits_value_after 10 n digits
after-le [] n = omega arith
after-le (x ∷ xs) n = let h = after-le xs (n * 10 + digit_value x) in omega arith

digit_value-is : (byte : ℕ) → IsAsciiDigit byte → digit_value byte ≡ byte - 48
digit_value-is byte h = grind (arith, nat_tests)

-- one digit more
pub after-step : (digits : List ℕ) (value k : ℕ) → k < length digits → IsAsciiDigit (get_or digits k 0)
    → digits_value_after 10 (10 * value + (get_or digits k 0 - 48)) (drop (k + 1) digits)
    ≡ digits_value_after 10 value (drop k digits)
after-step digits value k h is =
    let rest = drop (k + 1) digits in
    let byte = get_or digits k 0 in
    let d : digit_value byte ≡ byte - 48 = digit_value-is byte is in
    let same : 10 * value + (byte - 48) ≡ value * 10 + digit_value byte = omega arith in
    let list : drop k digits ≡ byte ∷ rest = drop-cons digits k 0 h
    ∙ ap (λ n. byte ∷ drop n digits) (sym (add-one k)) in
    ap (λ n. digits_value_after 10 n rest) same ∙ ap (λ s. digits_value_after 10 value s) (sym list)

-- with one digit more the value is ten times as great at least
pub after-grows : (digits : List ℕ) (value k : ℕ) → k < length digits → IsAsciiDigit (get_or digits k 0)
    → 10 * value ≤ digits_value_after 10 value (drop k digits)
after-grows digits value k h is =
    let grown = after-le (drop (k + 1) digits) (10 * value + (get_or digits k 0 - 48)) in
    let same = after-step digits value k h is in
    omega arith
