-- The printed names are in their forms.
use Rattle.std.proofs.Common.{◌≡◌, ◌≤◌, ◌<◌, ◌+◌, ◌∷◌, ◌++◌, ◌∙◌, ◌&&◌, ℕ, suc, zero, Bool, true, false, List, []}
use Rattle.std.proofs.Common.{length, Some, slice_get, refl, sym, ap, arith, map, length-append, decimal}
use Rattle.std.specs.Prelude.{nat_le}
use Rattle.std.specs.List.{list_all, range_with_len}
use Rattle.std.proofs.lemmas.Bool.Decides.{nat_tests}
use Rattle.std.proofs.lemmas.Fmt.{decimal_nonempty, length-decimal-le}
use Rattle.std.proofs.lemmas.List.{length-map}
use Rattle.std.proofs.lemmas.List.Folds.{list_all-append}
use Rattle.bn_base.specs.Number.{AreDigits}
use Rattle.bn_csv.specs.Forms.{is_name_byte, is_state_name, is_symbol, is_symbol_byte}
use Rattle.bn_csv.proofs.NumberingLemmas.{both_true}
use Rattle.bn_machine.specs.Machine.{IsMachine}
use Rattle.bn_lists.specs.Lists.{nth}
use Rattle.bn_qtable.specs.Named.{HasNames}
use Rattle.bn_bennett_laws.specs.Laws.{ListHasNames}
use Rattle.bn_bennett_laws.specs.declared.name.Name.{Name}
use Rattle.bn_bennett_laws.specs.declared.name.Name.TheVariants.{Compute, ComputeWithin, GoRight, CopyLetter, GoLeft}
use Rattle.bn_bennett_laws.specs.declared.name.Name.TheVariants.{PassLetter, Retrace, RetraceWithin}
use Rattle.bn_table.specs.Rows.{FitsTable, IsTable, Named}
use Rattle.bn_bennett.specs.Printed.{mark, translation_names, number_names, one_byte, print_of, bennett_state_text}
use Rattle.bn_bennett.specs.Translation.{IsTranslation, Translation}
use Rattle.bn_bennett.proofs.Printable.{name_bound}
use Rattle.bn_bennett.proofs.Texts.{decimal_digits, length-number_names}
use Rattle.bn_qtable.proofs.RowsLemmas.{all_named as named_all}

-- ---- digits

digits_tail : (d : ℕ) (ds : List ℕ) → AreDigits (d ∷ ds) → AreDigits ds
digits_tail d ds h = λ k inside. h (suc k) (omega arith)

name_digits : (ds : List ℕ) → AreDigits ds → list_all is_name_byte ds ≡ true
name_digits [] h = refl
name_digits (d ∷ ds) h =
    let first = h 0 (omega arith) in
    let here : is_name_byte d ≡ true = grind (arith, nat_tests) in
    rw here (name_digits ds (digits_tail d ds h))

symbol_digits : (ds : List ℕ) → AreDigits ds → list_all is_symbol_byte ds ≡ true
symbol_digits [] h = refl
symbol_digits (d ∷ ds) h =
    let first = h 0 (omega arith) in
    let here : is_symbol_byte d ≡ true = grind (arith, nat_tests) in
    rw here (symbol_digits ds (digits_tail d ds h))

-- ---- one name

name_mark : (primed : Bool) → (list_all is_name_byte (mark primed) ≡ true) × (length (mark primed) ≤ 1)
name_mark true = (refl, omega arith)
name_mark false = (refl, omega arith)

letter_byte : (name : Name) → is_name_byte (print_of name).letter ≡ true
letter_byte (Compute j) = refl
letter_byte (ComputeWithin m) = refl
letter_byte GoRight = refl
letter_byte CopyLetter = refl
letter_byte GoLeft = refl
letter_byte PassLetter = refl
letter_byte (Retrace j) = refl
letter_byte (RetraceWithin m) = refl

three_true : (a b c : Bool) → a ≡ true → b ≡ true → c ≡ true → (a && b && c) ≡ true
three_true a b c e f g = rw (e, f, g) refl

state_form : (name : Name) → (print_of name).number ≤ 12002 → is_state_name (bennett_state_text name) ≡ true
state_form name low =
    let n = (print_of name).number in
    let p = (print_of name).primed in
    let short : length (decimal n) ≤ 5 = length-decimal-le 5 n (omega arith) (omega arith) (omega arith) in
    let m : length (mark p) ≤ 1 = (name_mark p).1 in
    let long : length (decimal n ++ mark p) ≡ length (decimal n) + length (mark p) =
    length-append (decimal n) (mark p) in
    let bytes : list_all is_name_byte (bennett_state_text name) ≡ true =
    rw (
      letter_byte name,
      list_all-append is_name_byte (decimal n) (mark p),
      name_digits (decimal n) (decimal_digits n (omega arith)),
      (name_mark p).0,
    ) refl
    in
    let least : nat_le 1 (length (bennett_state_text name)) ≡ true = grind (arith, nat_tests) in
    let most : nat_le (length (bennett_state_text name)) 32 ≡ true = grind (arith, nat_tests) in
    three_true _ _ _ least most bytes

number_form : (n : ℕ) → n ≤ 4000 → is_symbol (decimal n) ≡ true
number_form n low =
    let short : length (decimal n) ≤ 4 = length-decimal-le 4 n (omega arith) (omega arith) (omega arith) in
    let some : 0 < length (decimal n) = decimal_nonempty n (omega arith) in
    let least : nat_le 1 (length (decimal n)) ≡ true = grind (arith, nat_tests) in
    let most : nat_le (length (decimal n)) 8 ≡ true = grind (arith, nat_tests) in
    three_true _ _ _ least most (symbol_digits (decimal n) (decimal_digits n (omega arith)))

-- ---- all names of a kind

pub states_form : (names : List Name) → ((n : ℕ) (q : Name) → slice_get names n ≡ Some q → (print_of q).number ≤ 12002)
    → list_all is_state_name (map bennett_state_text names) ≡ true
states_form [] all = refl
states_form (q ∷ qs) all = rw (state_form q (all 0 q refl)) (states_form qs (λ n r at. all (suc n) r at))

pub letters_form : (letters : List ℕ) → list_all is_symbol_byte letters ≡ true
    → list_all is_symbol (map one_byte letters) ≡ true
letters_form [] e = refl
letters_form (b ∷ bs) e =
    let both = both_true (is_symbol_byte b) (list_all is_symbol_byte bs) e in
    rw both.0 (letters_form bs both.1)

range_form : (a n : ℕ) → a + n ≤ 4001 → list_all is_symbol (map decimal (range_with_len a n)) ≡ true
range_form a zero h = refl
range_form a (suc n) h = rw (number_form a (omega arith)) (range_form (a + 1) n (omega arith))

pub numbers_form : (count : ℕ) → count ≤ 4000 → list_all is_symbol (number_names count) ≡ true
numbers_form count h = range_form 1 count (omega arith)

-- ---- so each has its name

some_once : {m n : ℕ} → Some m ≡ Some n → m ≡ n
some_once e = cc

module _ (t : Named) (s : Translation) (machine : IsMachine t.machine) (table : IsTable t) (fits : FitsTable t.machine)
    (listed : ListHasNames) (h : IsTranslation t.machine s) where
  pub all_states_form : list_all is_state_name (translation_names t s).states ≡ true
  all_states_form = states_form s.names (λ n q at. name_bound t.machine s n q machine fits listed h at)

  pub all_letters_form : list_all is_symbol (translation_names t s).one ≡ true
  all_letters_form = letters_form t.letters table.spelled.letters_form

  pub all_numbers_form : list_all is_symbol (translation_names t s).two ≡ true
  all_numbers_form = numbers_form (length t.machine.quints) fits.quints

  pub count_letters : t.machine.symbols ≡ length (map one_byte t.letters)
  count_letters = table.symbols ∙ sym (length-map t.letters one_byte)

  pub has_names : HasNames s.machine (translation_names t s)
  has_names = record {
    states = named_all is_state_name (translation_names t s).states s.machine.states
        (h.states ∙ sym (length-map s.names bennett_state_text)) all_states_form;
    one = λ z at. named_all is_symbol (translation_names t s).one z
        (some_once (sym at ∙ ap (λ (zs : List ℕ). nth zs 1) h.symbols) ∙ count_letters) all_letters_form;
    two = λ z at. named_all is_symbol (translation_names t s).two z
        (some_once (sym at ∙ ap (λ (zs : List ℕ). nth zs 2) h.symbols)
        ∙ sym (length-number_names (length t.machine.quints))) all_numbers_form;
    three = λ z at. named_all is_symbol (translation_names t s).three z
        (some_once (sym at ∙ ap (λ (zs : List ℕ). nth zs 3) h.symbols) ∙ count_letters) all_letters_form;
  }
