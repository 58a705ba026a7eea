-- The decimal texts of the numbers of an entry.
use Rattle.std.specs.Prelude.{◌≡◌, ℕ, ◌+◌, ◌^◌, ◌<◌, ◌≤◌, true, List, [], ◌∷◌, ◌++◌, length, decimal, Result, Ok, Err}
use Rattle.std.specs.Prelude.{refl}
use Rattle.std.specs.List.{list_all}
use Rattle.std.specs.Str.Parse.{digits_value}
use Rattle.std.proofs.Common.{zero, suc, sym, ap, ◌∙◌, arith, append-nil}
use Rattle.std.proofs.lemmas.Bool.Decides.{nat_tests}
use Rattle.std.proofs.lemmas.Fmt.{decimal_nonempty, digits_decimal, decimal_injective}
use Rattle.std.proofs.lemmas.List.{drop_all}
use Rattle.std.proofs.lemmas.Str.Parse.{IsNumeralModel, numerals_by_value, tells_by_index}
use Rattle.bn_base.specs.Number.{AreDigits, read_number}
use Rattle.bn_base.proofs.NumberLemmas.{read_number-again, read_number-takes}
use Rattle.bn_base.specs.declared.numbers.Digits.{Digits}
use Rattle.bn_csv.specs.Lines.{is_plain, is_plain_byte}
use Rattle.bn_base.specs.declared.limits.TheConstants.{MOST_COUNT}
use Rattle.bn_rsm.specs.TableFaults.{is_count, is_number}

own : IsNumeralModel AreDigits (digits_value 10)
own = numerals_by_value AreDigits tells_by_index

plain_digit : (d : ℕ) → 48 ≤ d → d ≤ 57 → is_plain_byte d ≡ true
plain_digit d low high = grind (arith, nat_tests)

plain_digits : (ds : List ℕ) → AreDigits ds → list_all is_plain_byte ds ≡ true
plain_digits [] h = refl
plain_digits (d ∷ ds) h = let first = h 0 (omega arith) in rw
    (plain_digit d (omega (arith, first)) (omega (arith, first))) (plain_digits ds (λ k l. h (suc k) (omega arith)))

plain_run : (ds : List ℕ) → 0 < length ds → AreDigits ds → is_plain ds ≡ true
plain_run [] some h = absurd (omega arith)
plain_run (d ∷ ds) some h = plain_digits (d ∷ ds) h

-- a number's text needs no quotes
pub plain_decimal : (n : ℕ) → n < 2 ^ 64 → is_plain (decimal n) ≡ true
plain_decimal n h = plain_run (decimal n) (decimal_nonempty n h) (digits_decimal own n h)

read_whole : (n : ℕ) → n ≤ MOST_COUNT → read_number (decimal n) 0 ≡ Ok (n, length (decimal n))
read_whole n bound =
    let read = read_number-again [] [] n (omega arith) (λ h. absurd (omega arith)) in
    let place : 0 + length (decimal n) ≡ length (decimal n) = omega arith in
    ap (λ t. read_number t 0) (sym (append-nil (decimal n))) ∙ read ∙ ap (λ p. Ok (n, p)) place

counted : (e n : ℕ) → 0 < n → n ≤ MOST_COUNT → is_count e (Ok (n, e)) ≡ true
counted e n some few = grind (arith, nat_tests)

-- it is a number of an entry
pub number_decimal : (n : ℕ) → n < MOST_COUNT → is_number (decimal (n + 1)) ≡ true
number_decimal n h = ap (is_count (length (decimal (n + 1)))) (read_whole (n + 1) (omega arith))
    ∙ counted (length (decimal (n + 1))) (n + 1) (omega arith) (omega arith)

-- what the test of a reading says
record IsCounted (field : List ℕ) (r : Result (ℕ × ℕ) Digits) : Type 0 where
  number : ℕ
  is : r ≡ Ok (number, length field)
  some : 0 < number
  few : number ≤ MOST_COUNT

count_parts : (e n behind : ℕ) → is_count e (Ok (n, behind)) ≡ true → (behind ≡ e) × (0 < n) × (n ≤ MOST_COUNT)
count_parts e n behind h = (grind (arith, nat_tests), grind (arith, nat_tests), grind (arith, nat_tests))

count_is : (field : List ℕ) (r : Result (ℕ × ℕ) Digits) → is_count (length field) r ≡ true → IsCounted field r
count_is field (Ok (n, behind)) h =
    let parts = count_parts (length field) n behind h in
    record { number = n; is = ap (λ b. Ok (n, b)) parts.0; some = parts.1; few = parts.2 }
count_is field (Err fault) h = cc h

-- a field that is a number is the text of one
pub record Numbered (field : List ℕ) : Type 0 where
  pub number : ℕ
  pub spelled : field ≡ decimal (number + 1)
  pub few : number < MOST_COUNT

pub numbered : (field : List ℕ) → is_number field ≡ true → Numbered field
numbered field h =
    let c = count_is field (read_number field 0) h in
    let takes = read_number-takes field 0 c.number (length field) c.is in
    let whole : field ≡ decimal c.number = takes.2 ∙ ap (λ rest. decimal c.number ++ rest)
    (drop_all (length field) field (omega arith)) ∙ append-nil (decimal c.number) in
    less_one c.number c.some c.few whole
  where
    less_one : (n : ℕ) → 0 < n → n ≤ MOST_COUNT → field ≡ decimal n → Numbered field
    less_one zero some few whole = absurd (omega arith)
    less_one (suc k) some few whole = let one : suc k ≡ k + 1 =
        omega arith in record { number = k; spelled = whole ∙ ap decimal one; few = omega arith }

-- two numbers with one text are one
pub same_number : (m n : ℕ) → m < MOST_COUNT → n < MOST_COUNT → decimal (m + 1) ≡ decimal (n + 1) → m ≡ n
same_number m n low high e = let same = decimal_injective (m + 1) (n + 1) (omega arith) (omega arith) e in omega arith
