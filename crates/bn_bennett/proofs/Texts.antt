-- The printed names are apart.
use Rattle.std.proofs.Common.{◌≡◌, ◌≤◌, ◌<◌, ◌+◌, ◌^◌, ◌-◌, ◌∷◌, ◌++◌, ◌∙◌, ◌&&◌, ◌==◌, ℕ, suc, zero, Bool, true, false}
use Rattle.std.proofs.Common.{not, List, [], length, Some, Ok, Result, refl, sym, ap, subst, arith, get_or, map, take}
use Rattle.std.proofs.Common.{decimal, slice_get}
use Rattle.std.specs.Prelude.{Contains}
use Rattle.std.specs.List.{range_with_len}
use Rattle.std.specs.Str.Parse.{digits_value}
use Rattle.std.proofs.lemmas.Str.Parse.{IsNumeralModel, numerals_by_value, tells_by_index}
use Rattle.std.proofs.lemmas.Fmt.{decimal_injective, decimal_nonempty, digits_decimal}
use Rattle.std.proofs.lemmas.List.FromFn.{get_or-map-range_with_len, length-map-range_with_len, map-range_with_len_more}
use Rattle.std.proofs.lemmas.Bool.{false≢true}
use Rattle.std.proofs.lemmas.Bool.Decides.{Decides-eqb}
use Rattle.std.proofs.lemmas.List.{append_cancel_left, get_or-map, get_or-take, length-map, length-take-le, map-append}
use Rattle.std.proofs.lemmas.List.{take_more}
use Rattle.std.proofs.lemmas.Option.{slice_get-get_or}
use Rattle.bn_base.specs.declared.numbers.Digits.{Digits}
use Rattle.bn_base.specs.Number.{AreDigits, BeginsWithNoDigit, read_number}
use Rattle.bn_base.proofs.NumberLemmas.{read_number-again}
use Rattle.bn_table.specs.Rows.{IsTable, Named, blank}
use Rattle.bn_table.proofs.Bounds.{few-letters}
use Rattle.bn_table.proofs.RowsLemmas.{one_symbol}
use Rattle.bn_quad.specs.Names.{Naming, symbols_on, with_state, with_symbol}
use Rattle.bn_bennett_laws.specs.declared.name.Name.{Name}
use Rattle.bn_bennett_laws.specs.declared.name.Name.TheVariants.{Compute, ComputeWithin, GoRight, CopyLetter, GoLeft}
use Rattle.bn_bennett_laws.specs.declared.name.Name.TheVariants.{PassLetter, Retrace, RetraceWithin}
use Rattle.bn_bennett.specs.Printed.{AreLetters, ArePrintable, mark, number_names, one_byte, printed, print_of}
use Rattle.bn_bennett.specs.Printed.{bennett_state_text, with_states, on_tape}
use Rattle.bn_bennett.specs.declared.naming.Print.{Print}

-- ---- a text tells its letter, its number and its prime

no_digit_in_mark : (primed : Bool) → BeginsWithNoDigit (mark primed)
no_digit_in_mark true = λ h. refl
no_digit_in_mark false = λ h. absurd (omega arith)

mark_once : (a b : Bool) → mark a ≡ mark b → a ≡ b
mark_once true true e = refl
mark_once true false e = cc
mark_once false true e = cc
mark_once false false e = refl

number_once : (m n : ℕ) (a b : Bool) → m < 2 ^ 62 → n < 2 ^ 62 → decimal m ++ mark a ≡ decimal n ++ mark b
    → (m ≡ n) × (a ≡ b)
number_once m n a b low high e =
    let one = read_number-again [] (mark a) m (omega arith) (no_digit_in_mark a) in
    let two = read_number-again [] (mark b) n (omega arith) (no_digit_in_mark b) in
    let both : ◌≡◌ {A = Result (ℕ × ℕ) Digits} (Ok (m, 0 + length (decimal m))) (Ok (n, 0 + length (decimal n))) =
    sym one ∙ ap (λ t. read_number t 0) e ∙ two in
    let pair : ◌≡◌ {A = ℕ × ℕ} (m, 0 + length (decimal m)) (n, 0 + length (decimal n)) = cc in
    let same : m ≡ n = ap (λ (p : ℕ × ℕ). p.0) pair in (
      same,
      mark_once a b (append_cancel_left (decimal n) (mark a) (mark b) (ap (λ k. decimal k ++ mark a) (sym same) ∙ e)),
    )

printed_once : (p q : Print) → p.number < 2 ^ 62 → q.number < 2 ^ 62 → printed p ≡ printed q
    → (p.letter ≡ q.letter) × (p.number ≡ q.number) × (p.primed ≡ q.primed)
printed_once p q low high e =
    let first : p.letter ≡ q.letter = cc in
    let rest : decimal p.number ++ mark p.primed ≡ decimal q.number ++ mark q.primed = cc in
    let both = number_once p.number q.number p.primed q.primed low high rest in
    (first, both.0, both.1)

-- ---- and so its name

same_mark : Bool → Bool → Bool
same_mark true b = b
same_mark false b = not b

same_mark_is : (b : Bool) → same_mark b b ≡ true
unfolding same_mark
same_mark_is true = refl
same_mark_is false = refl

-- a test that computes where two names are printed apart
abbrev is_same_print : Print → Print → Bool
is_same_print p q = (p.letter == q.letter) && (same_mark p.primed q.primed && (p.number == q.number))

test_apart : (a b : Name) → is_same_print (print_of a) (print_of b) ≡ true → a ≡ b
unfolding same_mark
test_apart (Compute i) (Compute j) e = let same : i + 1 ≡ j + 1 =
    (Decides-eqb (i + 1) (j + 1)).0 e in let less : i ≡ j = omega arith in ap Compute less
test_apart (ComputeWithin m) (ComputeWithin n) e = ap ComputeWithin ((Decides-eqb m n).0 e)
test_apart GoRight GoRight e = refl
test_apart CopyLetter CopyLetter e = refl
test_apart GoLeft GoLeft e = refl
test_apart PassLetter PassLetter e = refl
test_apart (Retrace i) (Retrace j) e = let same : i + 1 ≡ j + 1 =
    (Decides-eqb (i + 1) (j + 1)).0 e in let less : i ≡ j = omega arith in ap Retrace less
test_apart (RetraceWithin m) (RetraceWithin n) e = ap RetraceWithin ((Decides-eqb m n).0 e)
test_apart a b e = absurd (false≢true e)

test_same : (p q : Print) → (p.letter ≡ q.letter) × (p.number ≡ q.number) × (p.primed ≡ q.primed)
    → is_same_print p q ≡ true
test_same p q same = rw (
  (Decides-eqb p.letter q.letter).1 same.0,
  (Decides-eqb p.number q.number).1 same.1,
  same.2,
  same_mark_is q.primed,
) refl

pub state_text-once : (a b : Name) → (print_of a).number < 2 ^ 62 → (print_of b).number < 2 ^ 62
    → bennett_state_text a ≡ bennett_state_text b → a ≡ b
state_text-once a b low high e = test_apart a b (test_same (print_of a) (print_of b)
    (printed_once (print_of a) (print_of b) low high e))

-- ---- what isn't among the texts before it

texts_more : {X : Type 0} (f : X → List ℕ) (xs : List X) (i : ℕ) (d : X) (text : List ℕ) → i < length xs
    → text ≡ f (get_or xs i d) → map f (take i xs) ++ text ∷ [] ≡ map f (take (i + 1) xs)
texts_more f xs i d text inside is =
    ap (λ t. map f (take i xs) ++ t ∷ []) is ∙ sym (map-append f (take i xs) (get_or xs i d ∷ []))
    ∙ ap (map f) (sym (take_more xs i d inside))

pub not_among_front : {X : Type 0} (f : X → List ℕ) (xs : List X) (i : ℕ) (d : X) → i < length xs
    → ((j : ℕ) → j < i → f (get_or xs j d) ≡ f (get_or xs i d) → ⊥) → Contains (map f (take i xs)) (f (get_or xs i d))
    → ⊥
not_among_front f xs i d inside apart (k, low, here) =
    let long : length (map f (take i xs)) ≡ i = length-map (take i xs) f ∙ length-take-le i xs (omega arith) in
    let below : k < i = omega arith in
    let inside_front : k < length (take i xs) = omega (arith, length-take-le i xs (omega arith)) in
    apart k below (ap f (sym (get_or-take i xs k d below)) ∙ sym
    (get_or-map f (take i xs) k d (f (get_or xs i d)) inside_front) ∙ here)

-- a text after those before it, each of another entry, is new
module _ {X : Type 0} (f : X → List ℕ) (xs : List X) (i : ℕ) (d : X) (old : Naming) (text : List ℕ)
    (inside : i < length xs) (before : old ≡ with_states (map f (take i xs))) (is : text ≡ f (get_or xs i d)) where
  pub text_new : ((j k : ℕ) (a b : X) → slice_get xs j ≡ Some a → slice_get xs k ≡ Some b → f a ≡ f b → j ≡ k)
      → Contains old.states text → ⊥
  text_new apart there =
      let P : Naming → Type 0 = λ n. Contains n.states text in
      let Q : List ℕ → Type 0 = λ t. Contains (map f (take i xs)) t in
      not_among_front f xs i d inside (λ j low e.
      let equal : j ≡ i = apart j i (get_or xs j d) (get_or xs i d) (slice_get-get_or xs j d (omega arith))
      (slice_get-get_or xs i d inside) e in
      omega arith) (subst Q is (subst P before there))

  pub text_room : length xs < 2 ^ 32 → length old.states < 2 ^ 32 - 1
  text_room few =
      let long : length old.states ≡ i = ap (λ (n : Naming). length n.states) before ∙ length-map (take i xs) f
      ∙ length-take-le i xs (omega arith) in
      omega (arith, few)

-- ---- one name more

-- a state's name after those before it
pub states_more : {X : Type 0} (f : X → List ℕ) (xs : List X) (i : ℕ) (d : X) (old new : Naming) (text : List ℕ)
    → i < length xs → old ≡ with_states (map f (take i xs)) → text ≡ f (get_or xs i d) → new ≡ with_state old text
    → new ≡ with_states (map f (take (i + 1) xs))
states_more f xs i d old new text inside before is now =
    now ∙ ap (λ n. with_state n text) before ∙ ap with_states (texts_more f xs i d text inside is)

-- a symbol's name after those before it, on a tape from 1 to 3
on_tape_more : (n : Naming) (tape : ℕ) (names : List (List ℕ)) (text : List ℕ) → 1 ≤ tape
    → with_symbol (on_tape n tape names) tape text ≡ on_tape n tape (names ++ text ∷ [])
on_tape_more n zero names text h = absurd (omega arith)
on_tape_more n (suc zero) names text h = refl
on_tape_more n (suc (suc zero)) names text h = refl
on_tape_more n (suc (suc (suc tape))) names text h = refl

symbols-on_tape : (n : Naming) (tape : ℕ) (names : List (List ℕ)) → 1 ≤ tape
    → symbols_on (on_tape n tape names) tape ≡ names
symbols-on_tape n zero names h = absurd (omega arith)
symbols-on_tape n (suc zero) names h = refl
symbols-on_tape n (suc (suc zero)) names h = refl
symbols-on_tape n (suc (suc (suc tape))) names h = refl

-- ---- what each loop adds is new

module _ (names : List Name) (all : ArePrintable names) (i : ℕ) (d : Name) (old : Naming) (text : List ℕ)
    (inside : i < length names) (before : old ≡ with_states (map bennett_state_text (take i names)))
    (is : text ≡ bennett_state_text (get_or names i d)) where
  pub state_new : Contains old.states text → ⊥
  state_new = text_new bennett_state_text names i d old text inside before is
      (λ j k a b at_a at_b e. all.apart j k b (at_a ∙ ap Some (state_text-once a b (all.small j a at_a)
      (all.small k b at_b) e)) at_b)

  pub state_room : length old.states < 2 ^ 32 - 1
  state_room = text_room bennett_state_text names i d old text inside before is all.few

-- ---- the symbols of a tape

module _ (n : Naming) (tape : ℕ) (low : 1 ≤ tape) (old new : Naming) (texts : List (List ℕ)) (text : List ℕ)
    (before : old ≡ on_tape n tape texts) where
  -- the names after one more, and the names that it is not to be among
  pub symbols_more : new ≡ with_symbol old tape text → new ≡ on_tape n tape (texts ++ text ∷ [])
  symbols_more now = now ∙ ap (λ m. with_symbol m tape text) before ∙ on_tape_more n tape texts text low

  pub symbols_before : symbols_on old tape ≡ texts
  symbols_before = ap (λ m. symbols_on m tape) before ∙ symbols-on_tape n tape texts low

  pub symbol_new : (Contains texts text → ⊥) → Contains (symbols_on old tape) text → ⊥
  symbol_new none there = let P : List (List ℕ) → Type 0 = λ ts. Contains ts text in none (subst P symbols_before there)

-- a letter isn't among those before it
pub letter_new : (letters : List ℕ) → AreLetters letters → (i d : ℕ) → i < length letters
    → Contains (map one_byte (take i letters)) (one_byte (get_or letters i d)) → ⊥
letter_new letters all i d inside = not_among_front one_byte letters i d inside (λ j low e.
    let same : get_or letters j d ≡ get_or letters i d = cc in
    let equal : j ≡ i = all.apart j i (get_or letters i d) (slice_get-get_or letters j d (omega arith) ∙ ap Some same)
    (slice_get-get_or letters i d inside) in
    omega arith)

pub letters_before : (letters : List ℕ) (i : ℕ) → i < length letters → length (map one_byte (take i letters)) ≡ i
letters_before letters i inside = length-map (take i letters) one_byte ∙ length-take-le i letters (omega arith)

pub letters_more : (letters : List ℕ) (i d : ℕ) → i < length letters
    → map one_byte (take i letters) ++ one_byte (get_or letters i d) ∷ [] ≡ map one_byte (take (i + 1) letters)
letters_more letters i d inside = texts_more one_byte letters i d (one_byte (get_or letters i d)) inside refl

-- so are a table's letters
pub table_letters : (t : Named) → IsTable t → (letters : List ℕ) → letters ≡ t.letters → AreLetters letters
table_letters t table letters is = subst AreLetters (sym is) (record {
  few = omega (arith, few-letters t.names t.letters t.machine.quints _ table.spelled);
  apart = one_symbol t table;
})

-- ---- the numbers of the history

own : IsNumeralModel AreDigits (digits_value 10)
own = numerals_by_value AreDigits tells_by_index

pub decimal_digits : (n : ℕ) → n < 2 ^ 64 → AreDigits (decimal n)
decimal_digits n h = digits_decimal own n h

pub no_blank : (n : ℕ) → n < 2 ^ 64 → blank ∷ [] ≡ decimal n → ⊥
no_blank n h e =
    let some : 0 < length (decimal n) = decimal_nonempty n h in
    let first = decimal_digits n h 0 some in
    let is : get_or (decimal n) 0 0 ≡ 95 = sym (ap (λ (t : List ℕ). get_or t 0 0) e) in
    omega (arith, first)

pub number_new : (count : ℕ) → count < 2 ^ 32 → Contains (number_names count) (decimal (count + 1)) → ⊥
number_new count few (zero, low, here) = no_blank (count + 1) (omega arith) here
number_new count few (suc k, low, here) =
    let long : length (map decimal (range_with_len 1 count)) ≡ count = length-map-range_with_len decimal 1 count in
    let inside : k < count = omega arith in
    let at : get_or (map decimal (range_with_len 1 count)) k (decimal (count + 1)) ≡ decimal (1 + k) =
    get_or-map-range_with_len decimal 1 count k (1 + k) (decimal (count + 1)) inside refl in
    let same : 1 + k ≡ count + 1 = decimal_injective (1 + k) (count + 1) (omega arith) (omega arith) (sym at ∙ here) in
    omega arith

pub numbers_more : (count : ℕ) → number_names count ++ decimal (count + 1) ∷ [] ≡ number_names (count + 1)
numbers_more count =
    let number : 1 + count ≡ count + 1 = omega arith in
    ap (λ ts. (blank ∷ []) ∷ ts) (sym (map-range_with_len_more decimal 1 count (count + 1) number))

pub length-number_names : (count : ℕ) → length (number_names count) ≡ count + 1
length-number_names count = let long : length (map decimal (range_with_len 1 count)) ≡ count =
    length-map-range_with_len decimal 1 count in omega arith
