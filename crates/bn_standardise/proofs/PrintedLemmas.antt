-- The text of the list is read as the table of the machine in standard form.
use Rattle.std.proofs.Common.{◌≡◌, ◌∙◌, ◌≤◌, ◌<◌, ◌+◌, ◌-◌, ◌++◌, ◌∷◌, ◌&&◌, ℕ, suc, Bool, true, false, not, Some, List}
use Rattle.std.proofs.Common.{[], length, map, filter, get_or, refl, sym, subst, ap, arith, inl, inr, append_assoc}
use Rattle.std.proofs.Common.{slice_get, nat_eq, decimal, All}
use Rattle.std.specs.Prelude.{bytes_eq, nat_le}
use Rattle.std.specs.List.{list_all, list_any}
use Rattle.std.specs.Str.Parse.{digits_value}
use Rattle.std.proofs.lemmas.Bool.{cases_Bool}
use Rattle.std.proofs.lemmas.Bool.Decides.{Decides-eqb, nat_tests}
use Rattle.std.proofs.lemmas.Fmt.{decimal_injective, digits_decimal, length-decimal-le}
use Rattle.std.proofs.lemmas.List.{append-nil, get_or-map, length-map}
use Rattle.std.proofs.lemmas.Option.{get_or_from_slice_get, slice_get-get_or, slice_get_within}
use Rattle.std.proofs.lemmas.Slice.Eq.{bytes_eq-Decides}
use Rattle.std.proofs.lemmas.Str.Parse.{IsNumeralModel, numerals_by_value, tells_by_index}
use Rattle.bn_base.specs.Number.{AreDigits}
use Rattle.bn_csv.specs.Forms.{is_name_byte, is_state_name}
use Rattle.bn_csv.specs.Numbering.{firsts, firsts_by}
use Rattle.bn_csv.proofs.NumberingLemmas.{any-at, firsts-push}
use Rattle.bn_machine.specs.Machine.{Program, IsInRange, IsMachine, final_of}
use Rattle.bn_lists.proofs.ListLemmas.{nth-get_or}
use Rattle.bn_machine.specs.declared.quint.Quint.{Quint}
use Rattle.bn_table.specs.Rows.{FitsTable, IsTable, Named, blank, letters_in, names_in, rows_by, rows_of}
use Rattle.bn_table.proofs.RowsLemmas.{blank_first}
use Rattle.bn_table.proofs.MachineLemmas.{table_machine}
use Rattle.bn_lists.specs.Lists.{Has}
use Rattle.bn_standardise.specs.Rules.{back_over_all, leaving, middle_of, own_rule, rules_of}
use Rattle.bn_standardise.specs.Numbering.{distinct_names, is_same, names_of, number_of}
use Rattle.bn_standardise.specs.Standardised.{Occurs, numbered, standardised}
use Rattle.bn_standardise.specs.Refusals.{count_of}
use Rattle.bn_standardise.specs.Printed.{IsSmall, IsWritable, name_text, rule_entry, standard_table}
use Rattle.bn_standardise.specs.declared.name.Name.{Name}
use Rattle.bn_standardise.specs.declared.name.Name.TheVariants.{First, Own, Last}
use Rattle.bn_standardise.specs.declared.rule.Rule.{Rule}
use Rattle.bn_lists.proofs.MemberLemmas.{behind, of_two}
use Rattle.bn_standardise.proofs.ListLemmas.{nth_in}
use Rattle.bn_standardise.proofs.RuleLemmas.{earlier_next, later_state, rules_counted}
use Rattle.bn_standardise.proofs.RunLemmas.{in_range}
use Rattle.bn_standardise.proofs.NumberingLemmas.{first_appears, names_in as names_of_rule, place_stands, same_decides}
use Rattle.bn_standardise.proofs.RangeLemmas.{machine_again, rule_knows}

-- ---- which rules can be written

occurs_below : (p : Program) (s : ℕ) → IsMachine p → Occurs p.quints s → s < p.states
occurs_below p s machine h =
    let range = in_range p h.quint machine h.stands in
    elim h.names [ inl e ↦ subst (λ n. n < p.states) e range.state | inr e ↦ subst (λ n. n < p.states) e range.next ]

own_small : (p : Program) (n : Name) → IsMachine p → p.states ≤ 8000 → (s : ℕ) × Occurs p.quints s × (n ≡ Own s)
    → IsSmall n
own_small p n machine few own =
    let low : own.0 < p.states = occurs_below p own.0 machine own.1 in
    let small : IsSmall (Own own.0) = omega arith in
    subst IsSmall (sym own.2) small

state_small : (p : Program) (r : Rule) → IsMachine p → p.states ≤ 8000 → Has (rules_of p) r → IsSmall r.state
state_small p r machine few (inl e) = subst (λ (s : Rule). IsSmall s.state) (sym e) tt
state_small p r machine few (inr h) = own_small p r.state machine few (later_state p r machine.some h)

next_small : (p : Program) (r : Rule) → IsMachine p → p.states ≤ 8000 → Has (rules_of p) r → IsSmall r.next
next_small p r machine few (inl e) = own_small p r.next machine few (earlier_next p r machine.some (inl e))
next_small p r machine few (inr h) = elim (of_two (middle_of p) (leaving (final_of p.quints) ∷ []) r h) [
  | inl mid ↦ own_small p r.next machine few (earlier_next p r machine.some (inr mid))
  | inr (inl e) ↦ subst (λ (s : Rule). IsSmall s.next) (sym e) tt
  | inr (inr none) ↦ absurd none
]

pub writable : (t : Named) (r : Rule) → IsMachine t.machine → t.machine.states ≤ 8000 → Has (rules_of t.machine) r
    → IsWritable t r
writable t r machine few h =
    let knows = rule_knows t.machine r machine h in
    record {
      state = state_small t.machine r machine few h;
      read = knows.read;
      write = knows.write;
      next = next_small t.machine r machine few h;
    }

pub all_writable : (t : Named) → IsMachine t.machine → t.machine.states ≤ 8000 → All (IsWritable t) (rules_of t.machine)
all_writable t machine few k d inside =
    writable t (get_or (rules_of t.machine) k d) machine few (nth_in (rules_of t.machine) (suc k)
    (get_or (rules_of t.machine) k d) (nth-get_or (rules_of t.machine) k d inside))

-- ---- the form of a name

own : IsNumeralModel AreDigits (digits_value 10)
own = numerals_by_value AreDigits tells_by_index

digits_tail : (d : ℕ) (ds : List ℕ) → AreDigits (d ∷ ds) → AreDigits ds
digits_tail d ds h = λ k inside. h (suc k) (omega arith)

name_digits : (ds : List ℕ) → AreDigits ds → list_all is_name_byte ds ≡ true
name_digits [] h = refl
name_digits (d ∷ ds) h =
    let first = h 0 (omega arith) in
    let here : is_name_byte d ≡ true = grind (arith, nat_tests) in
    rw here (name_digits ds (digits_tail d ds h))

three_true : (a b c : Bool) → a ≡ true → b ≡ true → c ≡ true → (a && b && c) ≡ true
three_true a b c e f g = rw (e, f, g) refl

pub name_form : (n : Name) → IsSmall n → is_state_name (name_text n) ≡ true
name_form First small = refl
name_form Last small = refl
name_form (Own s) small =
    let short : length (decimal (s + 1)) ≤ 4 = length-decimal-le 4 (s + 1) (omega arith) (omega arith) (omega arith) in
    let bytes : list_all is_name_byte (decimal (s + 1)) ≡ true =
    name_digits (decimal (s + 1)) (digits_decimal own (s + 1) (omega arith)) in
    let least : nat_le 1 (length (name_text (Own s))) ≡ true = grind (arith, nat_tests) in
    let most : nat_le (length (name_text (Own s))) 32 ≡ true = grind (arith, nat_tests) in
    three_true _ _ _ least most bytes

-- ---- a text tells its name

name_once : (a b : Name) → IsSmall a → IsSmall b → name_text a ≡ name_text b → a ≡ b
name_once First First h k e = refl
name_once First (Own t) h k e = let head : ◌≡◌ {A = ℕ} 73 81 =
    ap (λ (l : List ℕ). get_or l 0 0) e in absurd (omega arith)
name_once First Last h k e = let head : ◌≡◌ {A = ℕ} 73 79 = ap (λ (l : List ℕ). get_or l 0 0) e in absurd (omega arith)
name_once (Own s) First h k e = let head : ◌≡◌ {A = ℕ} 81 73 =
    ap (λ (l : List ℕ). get_or l 0 0) e in absurd (omega arith)
name_once (Own s) (Own t) h k e =
    let rest : decimal (s + 1) ≡ decimal (t + 1) = cc in
    let same : s + 1 ≡ t + 1 = decimal_injective (s + 1) (t + 1) (omega arith) (omega arith) rest in
    let equal : s ≡ t = omega arith in
    ap Own equal
name_once (Own s) Last h k e = let head : ◌≡◌ {A = ℕ} 81 79 =
    ap (λ (l : List ℕ). get_or l 0 0) e in absurd (omega arith)
name_once Last First h k e = let head : ◌≡◌ {A = ℕ} 79 73 = ap (λ (l : List ℕ). get_or l 0 0) e in absurd (omega arith)
name_once Last (Own t) h k e = let head : ◌≡◌ {A = ℕ} 79 81 =
    ap (λ (l : List ℕ). get_or l 0 0) e in absurd (omega arith)
name_once Last Last h k e = refl

text_same : (a b : Name) → IsSmall a → IsSmall b → bytes_eq (name_text a) (name_text b) ≡ is_same a b
text_same a b h k = elim (cases_Bool (is_same a b)) [
  | inl hit ↦ (bytes_eq-Decides (name_text a) (name_text b)).1 (ap name_text ((same_decides a b).0 hit)) ∙ sym hit
  | inr miss ↦ elim (cases_Bool (bytes_eq (name_text a) (name_text b))) [
    | inl equal ↦ let one : true ≡ false = sym ((same_decides a b).1
        (name_once a b h k ((bytes_eq-Decides (name_text a) (name_text b)).0 equal))) ∙ miss in cc
    | inr other ↦ other ∙ sym miss
  ]
]

-- ---- the names in their order

-- what a test leaves of a list is of the list
in_filter : {X : Type 0} (test : X → Bool) (xs : List X) (x : X) → Has (filter test xs) x → Has xs x
in_filter test [] x h = h
in_filter test (y ∷ ys) x h = elim (cases_Bool (test y)) [
  | inl kept ↦ let there : Has (y ∷ filter test ys) x = rw kept at h in elim there
      [ inl e ↦ inl e | inr rest ↦ inr (in_filter test ys x rest) ]
  | inr out ↦ inr (in_filter test ys x (rw out at h))
]

in_firsts : (ns : List Name) (n : Name) → Has (firsts_by is_same ns) n → Has ns n
unfolding firsts_by
in_firsts [] n h = h
in_firsts (m ∷ ms) n (inl e) = inl e
in_firsts (m ∷ ms) n (inr h) = inr (in_firsts ms n (in_filter (λ l. not (is_same m l)) (firsts_by is_same ms) n h))

filter_texts : (n : Name) (ns : List Name) → IsSmall n → ((m : Name) → Has ns m → IsSmall m) →
    filter (λ w. not (bytes_eq (name_text n) w)) (map name_text ns) ≡ map name_text (filter (λ m. not (is_same n m)) ns)
filter_texts n [] h all = refl
filter_texts n (m ∷ ms) h all =
    let here : bytes_eq (name_text n) (name_text m) ≡ is_same n m = text_same n m h (all m (inl refl)) in
    let rest = filter_texts n ms h (λ l k. all l (inr k)) in
    elim (cases_Bool (is_same n m)) [
      | inl hit ↦ rw (here, hit) rest
      | inr miss ↦ rw (here, miss) (ap (λ ws. name_text m ∷ ws) rest)
    ]

-- the texts of names appear in the names' order
firsts_texts : (ns : List Name) → ((n : Name) → Has ns n → IsSmall n)
    → firsts (map name_text ns) ≡ map name_text (firsts_by is_same ns)
unfolding firsts_by
firsts_texts [] all = refl
firsts_texts (n ∷ ns) all =
    ap (λ zs. name_text n ∷ filter (λ w. not (bytes_eq (name_text n) w)) zs) (firsts_texts ns (λ m k. all m (inr k)))
    ∙ ap (λ zs. name_text n ∷ zs) (filter_texts n (firsts_by is_same ns) (all n (inl refl))
    (λ m k. all m (inr (in_firsts ns m k))))

names_small : (t : Named) (rs : List Rule) → ((r : Rule) → Has rs r → IsWritable t r) → (n : Name) → Has (names_of rs) n
    → IsSmall n
names_small t [] all n h = absurd h
names_small t (r ∷ rs) all n (inl e) = subst IsSmall (sym e) (all r (inl refl)).state
names_small t (r ∷ rs) all n (inr (inl e)) = subst IsSmall (sym e) (all r (inl refl)).next
names_small t (r ∷ rs) all n (inr (inr h)) = names_small t rs (λ s k. all s (inr k)) n h

names_written : (letters : List ℕ) (rs : List Rule) → names_in (map (rule_entry letters) rs)
    ≡ map name_text (names_of rs)
names_written letters [] = refl
names_written letters (r ∷ rs) = ap (λ ws. name_text r.state ∷ name_text r.next ∷ ws) (names_written letters rs)

names_form : (ns : List Name) → ((n : Name) → Has ns n → IsSmall n) → list_all is_state_name (map name_text ns) ≡ true
names_form [] all = refl
names_form (n ∷ ns) all = rw (name_form n (all n (inl refl))) (names_form ns (λ m k. all m (inr k)))

-- ---- the letters in their order

-- what stood before changes nothing
firsts_known : (xs ys : List ℕ) → ((y : ℕ) → Has ys y → list_any (nat_eq y) (firsts_by nat_eq xs) ≡ true)
    → firsts_by nat_eq (xs ++ ys) ≡ firsts_by nat_eq xs
firsts_known xs [] h = ap (firsts_by nat_eq) (append-nil xs)
firsts_known xs (y ∷ ys) h =
    let known : list_any (nat_eq y) (firsts_by nat_eq xs) ≡ true = h y (inl refl) in
    let one : firsts_by nat_eq (xs ++ y ∷ []) ≡ firsts_by nat_eq xs =
    firsts-push nat_eq Decides-eqb xs y ∙ rw known refl in
    ap (firsts_by nat_eq) (sym (append_assoc xs (y ∷ []) ys))
    ∙ firsts_known (xs ++ y ∷ []) ys (λ z k. ap (λ (l : List ℕ). list_any (nat_eq z) l) one ∙ h z (inr k))
    ∙ one

filter_twice : {X : Type 0} (test : X → Bool) (xs : List X) → filter test (filter test xs) ≡ filter test xs
filter_twice test [] = refl
filter_twice test (x ∷ xs) = elim (cases_Bool (test x)) [
  | inl kept ↦ rw (kept, kept) (ap (λ l. x ∷ l) (filter_twice test xs))
  | inr out ↦ rw out (filter_twice test xs)
]

firsts_twice : (x : ℕ) (xs : List ℕ) → firsts_by nat_eq (x ∷ x ∷ xs) ≡ firsts_by nat_eq (x ∷ xs)
unfolding firsts_by
firsts_twice x xs =
    let same : nat_eq x x ≡ true = (Decides-eqb x x).1 refl in
    rw same (ap (λ l. x ∷ l) (filter_twice (λ y. not (nat_eq x y)) (firsts_by nat_eq xs)))

letters_joined : (letters : List ℕ) (rs ss : List Rule) → letters_in (map (rule_entry letters) (rs ++ ss))
    ≡ letters_in (map (rule_entry letters) rs) ++ letters_in (map (rule_entry letters) ss)
letters_joined letters [] ss = refl
letters_joined letters (r ∷ rs) ss = ap (λ ws. get_or letters r.read 0 ∷ get_or letters r.write 0 ∷ ws)
    (letters_joined letters rs ss)

own_letters : (names : List (List ℕ)) (letters : List ℕ) (qs : List Quint)
    → letters_in (map (rule_entry letters) (map own_rule qs)) ≡ letters_in (rows_by names letters qs)
own_letters names letters [] = refl
own_letters names letters (q ∷ qs) = ap (λ ws. get_or letters q.read 0 ∷ get_or letters q.write 0 ∷ ws)
    (own_letters names letters qs)

letter_known : (letters : List ℕ) (k y : ℕ) → k < length letters → y ≡ get_or letters k 0
    → list_any (nat_eq y) letters ≡ true
letter_known letters k y inside e = any-at nat_eq Decides-eqb y letters k
    (slice_get-get_or letters k 0 inside ∙ ap Some (sym e))

written_known : (t : Named) (rs : List Rule) → t.machine.symbols ≡ length t.letters
    → ((r : Rule) → Has rs r → IsWritable t r) → (y : ℕ) →
    Has (letters_in (map (rule_entry t.letters) rs)) y → list_any (nat_eq y) t.letters ≡ true
written_known t [] count all y h = absurd h
written_known t (r ∷ rs) count all y (inl e) = letter_known t.letters r.read y
    (omega (arith, (all r (inl refl)).read, count)) e
written_known t (r ∷ rs) count all y (inr (inl e)) = letter_known t.letters r.write y
    (omega (arith, (all r (inl refl)).write, count)) e
written_known t (r ∷ rs) count all y (inr (inr h)) = written_known t rs count (λ s k. all s (inr k)) y h

-- ---- the table

module _ (t : Named) (table : IsTable t) (fits : FitsTable t.machine) (few : count_of t.machine ≤ 4000) where
  machine : IsMachine t.machine
  machine = table_machine t table

  all : (r : Rule) → Has (rules_of t.machine) r → IsWritable t r
  all r h = writable t r machine fits.states h

  -- the back rules and the last one
  abbrev tail_rules : List Rule
  tail_rules = back_over_all (final_of t.machine.quints) 1 (t.machine.symbols - 1)
      ++ leaving (final_of t.machine.quints) ∷ []

  in_tail_rules : (r : Rule) → Has tail_rules r → Has (rules_of t.machine) r
  in_tail_rules r h = inr (subst (λ l. Has l r) (sym (append_assoc (map own_rule t.machine.quints)
      (back_over_all (final_of t.machine.quints) 1 (t.machine.symbols - 1)) (leaving (final_of t.machine.quints) ∷ [])))
      (behind (map own_rule t.machine.quints) tail_rules r h))

  -- all letters that are written, behind the blank
  all_letters : letters_in (map (rule_entry t.letters) (rules_of t.machine))
      ≡ blank ∷ blank ∷ letters_in (rows_of t) ++ letters_in (map (rule_entry t.letters) tail_rules)
  all_letters =
      let first : get_or t.letters 0 0 ≡ blank = get_or_from_slice_get t.letters 0 blank 0 (blank_first t table) in
      let group : middle_of t.machine ++ leaving (final_of t.machine.quints) ∷ []
      ≡ map own_rule t.machine.quints ++ tail_rules =
      append_assoc (map own_rule t.machine.quints) (back_over_all (final_of t.machine.quints) 1 (t.machine.symbols - 1))
      (leaving (final_of t.machine.quints) ∷ []) in
      ap (λ b. b ∷ b ∷ letters_in (map (rule_entry t.letters) (middle_of t.machine
      ++ leaving (final_of t.machine.quints) ∷ []))) first
      ∙ ap (λ (rs : List Rule). blank ∷ blank ∷ letters_in (map (rule_entry t.letters) rs)) group
      ∙ ap (λ ws. blank ∷ blank ∷ ws) (letters_joined t.letters (map own_rule t.machine.quints) tail_rules
      ∙ ap (λ ws. ws ++ letters_in (map (rule_entry t.letters) tail_rules))
      (own_letters t.names t.letters t.machine.quints))

  letters_first : t.letters ≡ firsts_by nat_eq (blank ∷ letters_in (map (rule_entry t.letters) (rules_of t.machine)))
  letters_first =
      let before : firsts_by nat_eq (blank ∷ letters_in (rows_of t)) ≡ t.letters = sym table.spelled.letters_by_first in
      let behind = firsts_known (blank ∷ letters_in (rows_of t)) (letters_in (map (rule_entry t.letters) tail_rules))
      (λ y h. ap (λ (l : List ℕ). list_any (nat_eq y) l) before
      ∙ written_known t tail_rules table.symbols (λ r k. all r (in_tail_rules r k)) y h) in
      sym (ap (λ ws. firsts_by nat_eq (blank ∷ ws)) all_letters
      ∙ firsts_twice blank (blank ∷ letters_in (rows_of t) ++ letters_in (map (rule_entry t.letters) tail_rules))
      ∙ firsts_twice blank (letters_in (rows_of t) ++ letters_in (map (rule_entry t.letters) tail_rules))
      ∙ behind ∙ before)

  -- ---- the rows

  abbrev names : List Name
  names = distinct_names (rules_of t.machine)

  -- the text of a name's number is that of the name
  name_at : (n : Name) → Has (names_of (rules_of t.machine)) n
      → get_or (map name_text names) (number_of (rules_of t.machine) n) [] ≡ name_text n
  name_at n h =
      let at : slice_get names (number_of (rules_of t.machine) n) ≡ Some n =
      place_stands names n (first_appears (names_of (rules_of t.machine)) n h) in
      get_or-map name_text names (number_of (rules_of t.machine) n) n []
      (slice_get_within names (number_of (rules_of t.machine) n) n at)
      ∙ ap name_text (get_or_from_slice_get names (number_of (rules_of t.machine) n) n n at)

  rows_written : (rs : List Rule) → ((r : Rule) → Has rs r → Has (rules_of t.machine) r)
      → rows_by (map name_text names) t.letters (map (numbered (number_of (rules_of t.machine))) rs)
      ≡ map (rule_entry t.letters) rs
  rows_written [] within = refl
  rows_written (r ∷ rs) within =
      let two = names_of_rule (rules_of t.machine) r (within r (inl refl)) in
      rw (name_at r.state two.0, name_at r.next two.1) (ap (λ l. rule_entry t.letters r ∷ l)
      (rows_written rs (λ s h. within s (inr h))))

  pub rows_are : rows_of (standard_table t) ≡ map (rule_entry t.letters) (rules_of t.machine)
  rows_are = rows_written (rules_of t.machine) (λ r h. h)

  pub is_table : IsTable (standard_table t)
  is_table =
      let again = machine_again t.machine machine (omega (arith, few)) in
      let count : length (standardised t.machine).quints ≡ count_of t.machine =
      rules_counted (number_of (rules_of t.machine)) t.machine machine in
      let long : length (rows_of (standard_table t)) ≡ length (standardised t.machine).quints =
      length-map (standardised t.machine).quints (λ q. _) in
      let named : length (map name_text names) ≡ length names = length-map names name_text in
      record {
        spelled = record {
          rows = refl;
          in_range = subst (λ f. All (IsInRange f (length t.letters)) (standardised t.machine).quints) (sym named)
              (subst (λ z. All (IsInRange (length names) z) (standardised t.machine).quints) table.symbols
              again.in_range);
          names_by_first = sym (ap (λ rows. firsts (names_in rows)) rows_are
              ∙ ap firsts (names_written t.letters (rules_of t.machine))
              ∙ firsts_texts (names_of (rules_of t.machine)) (names_small t (rules_of t.machine) all));
          letters_by_first = letters_first ∙ ap (λ rows. firsts_by nat_eq (blank ∷ letters_in rows)) (sym rows_are);
          names_form = names_form names (λ n h. names_small t (rules_of t.machine) all n
              (in_firsts (names_of (rules_of t.machine)) n h));
          letters_form = table.spelled.letters_form;
        };
        some = omega (arith, count, long);
        few = omega (arith, count, long, few);
        states = sym named;
        symbols = table.symbols;
      }
