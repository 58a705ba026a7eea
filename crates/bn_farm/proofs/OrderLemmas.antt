-- What a line of a schedule says can be read from it, and only that.
use Rattle.std.specs.Prelude.{◌≡◌, ◌≢◌, ℕ, ◌≤◌, ◌==◌, nat_le, Bool, true, false, List, [], ◌∷◌, ◌++◌, Option, Some}
use Rattle.std.specs.Prelude.{None, codes, decimal, refl}
use Rattle.std.specs.Str.Parse.{digits_value}
use Rattle.std.proofs.Common.{arith, sym, ap, subst, ◌∙◌, append_assoc}
use Rattle.std.proofs.lemmas.Bool.Decides.{nat_tests}
use Rattle.std.proofs.lemmas.Fmt.{digits_decimal}
use Rattle.std.proofs.lemmas.List.Elements.{All-nil, All-cons, All-append, All-from_get_or}
use Rattle.std.proofs.lemmas.Option.{option_and_then_some, cond_some, some_pair_parts}
use Rattle.std.proofs.lemmas.Str.Parse.{IsNumeralModel, numerals_by_value, tells_by_index}
use Rattle.bn_base.specs.Line.{IsInLine}
use Rattle.bn_base.specs.Number.{greatest, AreDigits}
use Rattle.bn_netlist_laws.specs.Reading.{word_taken, number_taken}
use Rattle.bn_netlist_laws.proofs.LineReadingLemmas.{word_taken-takes, word_taken-again, number_taken-takes}
use Rattle.bn_netlist_laws.proofs.LineReadingLemmas.{number_taken-again}
use Rattle.bn_farm.specs.FarmTexts.{IsSayableOrder, order_text, sign_text}
use Rattle.bn_farm.specs.declared.order.Order.{Order}
use Rattle.bn_farm.specs.Reading.{order_taken, sign_by, sign_taken}

-- ---- what is read is written so

sign_takes : (plus minus : Option (List ℕ)) (bytes behind : List ℕ) (forward : Bool)
    → word_taken (codes "+ ") bytes ≡ plus → word_taken (codes "- ") bytes ≡ minus
    → sign_by plus minus ≡ Some (forward, behind) → bytes ≡ sign_text forward ++ behind
sign_takes (Some rest) minus bytes behind forward p m h =
    let both = some_pair_parts true forward rest behind h in
    word_taken-takes (codes "+ ") bytes rest p ∙ (λ i. sign_text (both.0 i) ++ both.1 i)
sign_takes None (Some rest) bytes behind forward p m h =
    let both = some_pair_parts false forward rest behind h in
    word_taken-takes (codes "- ") bytes rest m ∙ (λ i. sign_text (both.0 i) ++ both.1 i)
sign_takes None None bytes behind forward p m h = absurd (cc)

sign_taken-takes : (bytes behind : List ℕ) (forward : Bool) → sign_taken bytes ≡ Some (forward, behind)
    → bytes ≡ sign_text forward ++ behind
unfolding sign_taken
sign_taken-takes bytes behind forward h = sign_takes (word_taken (codes "+ ") bytes) (word_taken (codes "- ") bytes)
    bytes behind forward refl refl h

-- the line with its byte 10, its pieces one behind the other
pub pieces : (o : Order) (behind : List ℕ) → order_text o ++ 10 ∷ behind
    ≡ sign_text o.forward ++ (decimal o.number ++ (codes " " ++ (decimal o.count ++ 10 ∷ behind)))
pieces o behind =
    append_assoc (sign_text o.forward) (decimal o.number ++ (codes " " ++ decimal o.count)) (10 ∷ behind)
    ∙ ap (λ r. sign_text o.forward ++ r) (append_assoc (decimal o.number) (codes " " ++ decimal o.count) (10 ∷ behind)
    ∙ ap (λ r. decimal o.number ++ r) (append_assoc (codes " ") (decimal o.count) (10 ∷ behind)))

pub record IsTaken (o : Order) (bytes behind : List ℕ) : Type 0 where
  pub sayable : IsSayableOrder o
  pub written : bytes ≡ order_text o ++ 10 ∷ behind

pub order_taken-takes : (bytes behind : List ℕ) (o : Order) → order_taken bytes ≡ Some (o, behind)
    → IsTaken o bytes behind
unfolding order_taken
order_taken-takes bytes behind o h =
    option_and_then_some _ (sign_taken bytes) (o, behind) h (λ sign s_is h1.
    option_and_then_some _ (number_taken sign.1) (o, behind) h1 (λ number n_is h2.
    option_and_then_some _ (word_taken (codes " ") number.1) (o, behind) h2 (λ space p_is h3.
    option_and_then_some _ (number_taken space) (o, behind) h3 (λ count c_is h4.
    option_and_then_some _ (word_taken (10 ∷ []) count.1) (o, behind) h4 (λ left l_is h5.
    let made : Order = record { forward = sign.0; number = number.0; count = count.0 } in
    let tested = cond_some (nat_le 1 count.0) (made, left) (o, behind) h5 in
    let first = sign_taken-takes bytes sign.1 sign.0 s_is in
    let second = number_taken-takes sign.1 number.1 number.0 n_is in
    let third = word_taken-takes (codes " ") number.1 space p_is in
    let fourth = number_taken-takes space count.1 count.0 c_is in
    let fifth = word_taken-takes (10 ∷ []) count.1 left l_is in
    let test = tested.0 in
    let some : 1 ≤ count.0 = grind (arith, nat_tests) in
    let written : bytes ≡ order_text made ++ 10 ∷ left =
    first ∙ ap (λ r. sign_text sign.0 ++ r) (second.1 ∙ ap (λ r. decimal number.0 ++ r)
    (third ∙ ap (λ r. codes " " ++ r) (fourth.1 ∙ ap (λ r. decimal count.0 ++ r) fifth)))
    ∙ sym (pieces made left) in
    let P : Order × List ℕ → Type 0 = λ p. IsTaken p.0 bytes p.1 in
    subst P tested.1 (record {
      sayable = record { number = second.0; some = some; few = fourth.0 };
      written = written;
    }))))))

-- ---- what is written is read

sign_taken-again : (forward : Bool) (behind : List ℕ) → sign_taken (sign_text forward ++ behind)
    ≡ Some (forward, behind)
unfolding sign_taken word_taken
sign_taken-again true behind = refl
sign_taken-again false behind = refl

again : (o : Order) (behind : List ℕ) → IsSayableOrder o → order_taken
    (sign_text o.forward ++ (decimal o.number ++ (codes " " ++ (decimal o.count ++ 10 ∷ behind)))) ≡ Some (o, behind)
unfolding order_taken
again o behind h =
    let sign = sign_taken-again o.forward (decimal o.number ++ (codes " " ++ (decimal o.count ++ 10 ∷ behind))) in
    let number = number_taken-again o.number (codes " " ++ (decimal o.count ++ 10 ∷ behind)) h.number (λ _. refl) in
    let space = word_taken-again (codes " ") (decimal o.count ++ 10 ∷ behind) in
    let count = number_taken-again o.count (10 ∷ behind) h.few (λ _. refl) in
    let last = word_taken-again (10 ∷ []) behind in
    let some = h.some in
    let test : nat_le 1 o.count ≡ true = grind (arith, nat_tests) in
    rw (sign, number, space, count, last, test) refl

pub order_taken-again : (o : Order) (behind : List ℕ) → IsSayableOrder o
    → order_taken (order_text o ++ 10 ∷ behind) ≡ Some (o, behind)
order_taken-again o behind h = ap order_taken (pieces o behind) ∙ again o behind h

same_taken : (a b : Order) (x y : List ℕ) → ◌≡◌ {A = Option (Order × List ℕ)} (Some (a, x)) (Some (b, y))
    → (a ≡ b) × (x ≡ y)
same_taken a b x y e = some_pair_parts a b x y e

-- two texts that begin with a line are one where they are equal
pub lines-same : (a b : Order) (rest other : List ℕ) → IsSayableOrder a → IsSayableOrder b
    → order_text a ++ 10 ∷ rest ≡ order_text b ++ 10 ∷ other → (a ≡ b) × (rest ≡ other)
lines-same a b rest other one also e = same_taken a b rest other
    (sym (order_taken-again a rest one) ∙ ap order_taken e ∙ order_taken-again b other also)

-- ---- no line holds a byte 10, and none is the mark

abbrev Ten : ℕ → Type 0
Ten byte = byte ≢ 10

numerals : IsNumeralModel AreDigits (digits_value 10)
numerals = numerals_by_value AreDigits tells_by_index

number_in_line : (n : ℕ) → n ≤ greatest → IsInLine (decimal n)
number_in_line n small =
    let digits : AreDigits (decimal n) = digits_decimal numerals n (omega arith) in
    All-from_get_or Ten (decimal n) 0 (λ i inside is. let digit = digits i inside in omega (arith, digit, is))

apart : (a : ℕ) → (a == 10) ≡ false → a ≢ 10
apart a test is = let h = ap (λ n. n == 10) is in let both : true ≡ false = sym h ∙ test in cc

sign_in_line : (forward : Bool) → IsInLine (sign_text forward)
sign_in_line true = All-cons Ten 43 (32 ∷ []) (apart 43 refl) (All-cons Ten 32 [] (apart 32 refl) (All-nil Ten))
sign_in_line false = All-cons Ten 45 (32 ∷ []) (apart 45 refl) (All-cons Ten 32 [] (apart 32 refl) (All-nil Ten))

pub order_in_line : (o : Order) → IsSayableOrder o → IsInLine (order_text o)
order_in_line o h =
    All-append Ten (sign_text o.forward) (decimal o.number ++ (codes " " ++ decimal o.count)) (sign_in_line o.forward)
    (All-append Ten (decimal o.number) (codes " " ++ decimal o.count) (number_in_line o.number h.number)
    (All-append Ten (codes " ") (decimal o.count) (All-cons Ten 32 [] (apart 32 refl) (All-nil Ten))
    (number_in_line o.count h.few)))

-- the byte at the front, or none
abbrev pub front_of : List ℕ → ℕ
front_of [] = 0
front_of (b ∷ bytes) = b

pub front_is : (a : ℕ) (bytes rest : List ℕ) → front_of bytes ≡ a → bytes ≡ 37 ∷ rest → a ≡ 37
front_is a bytes rest first e = sym first ∙ ap front_of e

pub order_no_mark : (o : Order) (behind rest : List ℕ) → order_text o ++ behind ≢ 37 ∷ rest
order_no_mark o behind rest e = by_sign o.forward (decimal o.number ++ (codes " " ++ decimal o.count)) e
  where
    by_sign : (forward : Bool) (more : List ℕ) → (sign_text forward ++ more) ++ behind ≡ 37 ∷ rest → ⊥
    by_sign true more e = let h = front_is 43 ((sign_text true ++ more) ++ behind) rest refl e in omega arith
    by_sign false more e = let h = front_is 45 ((sign_text false ++ more) ++ behind) rest refl e in omega arith
