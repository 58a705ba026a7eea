-- What is written of a machine with names is read as it, but for the numbers.
use Rattle.std.specs.Prelude.{◌≡◌, ℕ, ◌<◌, ◌≤◌, Bool, true, List, [], ◌∷◌, length, map, Some, slice_get, slice_index_or}
use Rattle.std.specs.Prelude.{All, bytes_eq, cond, refl}
use Rattle.std.proofs.Common.{zero, suc, arith, sym, ap, subst, ◌∙◌, get_or, inl, inr}
use Rattle.std.proofs.lemmas.Bool.{cases_Bool}
use Rattle.std.proofs.lemmas.List.{length-map}
use Rattle.std.proofs.lemmas.Option.{same_Some, slice_get_within, slice_get-get_or, get_or_from_slice_get}
use Rattle.std.proofs.lemmas.Slice.Eq.{bytes_eq-Decides}
use Rattle.bn_csv.specs.Forms.{is_state_name, is_symbol}
use Rattle.bn_csv.specs.Numbering.{firsts, firsts_by}
use Rattle.bn_csv.proofs.NumberingLemmas.{one_number, apart-firsts}
use Rattle.bn_csv.proofs.FaultLemmas.{none_faulty}
use Rattle.bn_lists.specs.Lists.{nth, IsIn}
use Rattle.bn_machine.specs.Shifts.{shift_text}
use Rattle.bn_machine.proofs.ShiftLemmas.{one_shift}
use Rattle.bn_quad.specs.Names.{Naming, AreApart}
use Rattle.bn_quad.specs.Quadruples.{Deed, Rewrite, Move, Rule, Quadruples, IsQuadMachine, IsRuleInRange}
use Rattle.bn_qtable.specs.Entry.{HasForms, SaysHasForms, quadruple_entry, read_field, act_field, slash}
use Rattle.bn_qtable.specs.Faults.{quadruple_entry_fault}
use Rattle.bn_qtable.specs.Named.{HasNames, IsNamed, DeedIsNamed, RuleIsNamed}
use Rattle.bn_qtable.specs.Rows.{QuadTable, IsQuadTableOf, quadruple_rows_by, said_deed, said_of_quadruple}
use Rattle.bn_qtable.specs.Rows.{state_names_in, symbol_names_in, symbols_at, blank_name, counts_of}
use Rattle.bn_qtable.specs.declared.entry.TheConstants.{MOST_ENTRIES}
use Rattle.bn_qtable.specs.declared.refusal.QuadTableRefusal.TheVariants as refusal
use Rattle.bn_qtable.proofs.Passing.{slash-is-none, no-slash, no_fault}
use Rattle.bn_qtable.proofs.ReadingLaws.{reading_of}
use Rattle.bn_qtable.proofs.RowsLemmas.{table_has_names}
use Rattle.bn_qtable.proofs.Writing.{all-named, entries-back}
use Rattle.bn_bennett_laws.proofs.MembershipLemmas.{from_flat_map, from_map, each_of_two, in_cases, not_in_empty}
use Rattle.bn_bennett.proofs.Counting.{in_from_firsts}
use Rattle.bn_csv.specs.Entries.{field_at}
use Rattle.bn_renumbering.specs.Renumbering.{AreTableNames, Renumbering, ReadsBack, KeepsSymbolsApart, KeepNames}
use Rattle.bn_renumbering.specs.Renumbering.{renumbered_deed, renumbered_rule}
use Rattle.bn_renumbering.specs.Laws.{WrittenMachinesReadBack}

-- ---- a name's number

number_in : List (List ℕ) → List ℕ → ℕ
number_in [] name = 0
number_in (x ∷ xs) name = cond (bytes_eq x name) 0 (suc (number_in xs name))

finds : (xs : List (List ℕ)) (name : List ℕ) (n : ℕ) → slice_get xs n ≡ Some name
    → slice_get xs (number_in xs name) ≡ Some name
unfolding number_in
finds [] name n at = absurd (cc)
finds (x ∷ xs) name zero at =
    let hit : bytes_eq x name ≡ true = (bytes_eq-Decides x name).1 (same_Some x name at) in
    ap (λ b. slice_get (x ∷ xs) (cond b 0 (suc (number_in xs name)))) hit ∙ at
finds (x ∷ xs) name (suc n) at = elim (cases_Bool (bytes_eq x name)) [
  | inl hit ↦ ap (λ b. slice_get (x ∷ xs) (cond b 0 (suc (number_in xs name)))) hit
      ∙ ap Some ((bytes_eq-Decides x name).0 hit)
  | inr miss ↦ ap (λ b. slice_get (x ∷ xs) (cond b 0 (suc (number_in xs name)))) miss ∙ finds xs name n at
]

-- the number of each name of one list in another
abbrev renumber : List (List ℕ) → List (List ℕ) → ℕ → ℕ
renumber before after n = number_in after (slice_index_or before n [])

-- each name of the one list stands in the other
abbrev AreIn : List (List ℕ) → List (List ℕ) → Type 0
AreIn before after = (n : ℕ) (name : List ℕ) → slice_get before n ≡ Some name
    → (j : ℕ) × (slice_get after j ≡ Some name)

kept : (before after : List (List ℕ)) → AreIn before after → KeepNames (renumber before after) before after
kept before after are n name at =
    let here : slice_index_or before n [] ≡ name = get_or_from_slice_get before n name [] at in
    let found = are n name at in
    ap (λ x. slice_get after (number_in after x)) here ∙ finds after name found.0 found.1

numbers_apart : (before after : List (List ℕ))
    → ((m n : ℕ) (name : List ℕ) → slice_get before m ≡ Some name → slice_get before n ≡ Some name → m ≡ n)
    → AreIn before after
    → (a b : ℕ) → a < length before → b < length before → renumber before after a ≡ renumber before after b → a ≡ b
numbers_apart before after once are a b low high same =
    let first = slice_get-get_or before a [] low in
    let second = slice_get-get_or before b [] high in
    let names : Some (get_or before a []) ≡ Some (get_or before b []) =
    sym (kept before after are a (get_or before a []) first) ∙ ap (slice_get after) same
    ∙ kept before after are b (get_or before b []) second in
    once a b (get_or before a []) first (second ∙ sym names)

-- the renumber of a number whose name is that of another number
number_of : (before after : List (List ℕ)) (form : List ℕ → Bool) (x y : ℕ) → AreApart after → IsNamed form after y
    → slice_index_or before x [] ≡ slice_index_or after y [] → renumber before after x ≡ y
number_of before after form x y apart named same =
    let there : slice_index_or after y [] ≡ named.0 = get_or_from_slice_get after y named.0 [] named.1 in
    apart.same named.0 (renumber before after x) y (ap (λ n. slice_get after (number_in after n)) (same ∙ there)
    ∙ finds after named.0 y named.1) named.1

-- ---- deeds and quadruples with the same entries

name_of_number : (names : List (List ℕ)) (form : List ℕ → Bool) (n : ℕ) → IsNamed form names n
    → form (slice_index_or names n []) ≡ true
name_of_number names form n named = ap form (get_or_from_slice_get names n named.0 [] named.1) ∙ named.2

same_deed : (before after : List (List ℕ)) (d e : Deed) → AreApart after → DeedIsNamed before d → DeedIsNamed after e
    → read_field (said_deed before d) ≡ read_field (said_deed after e)
    → act_field (said_deed before d) ≡ act_field (said_deed after e) → renumbered_deed (renumber before after) d ≡ e
same_deed before after (Rewrite r w) (Rewrite r' w') apart own named read act =
    λ i. Rewrite (number_of before after is_symbol r r' apart named.0 read i)
    (number_of before after is_symbol w w' apart named.1 act i)
same_deed before after (Rewrite r w) (Move s) apart own named read act =
    absurd (slash-is-none (ap is_symbol (sym read) ∙ name_of_number before is_symbol r own.0))
same_deed before after (Move s) (Rewrite r w) apart own named read act =
    absurd (slash-is-none (ap is_symbol read ∙ name_of_number after is_symbol r named.0))
same_deed before after (Move s) (Move s') apart own named read act = ap Move (one_shift s s' act)

module _ (before after : Naming) (apart : AreTableNames after) where
  abbrev renumbering : Renumbering
  renumbering = record {
    states = renumber before.states after.states;
    one = renumber before.one after.one;
    two = renumber before.two after.two;
    three = renumber before.three after.three;
  }

  same_rule : (r s : Rule ℕ) → RuleIsNamed before r → RuleIsNamed after s
      → quadruple_entry (said_of_quadruple before r) ≡ quadruple_entry (said_of_quadruple after s)
      → renumbered_rule renumbering r ≡ s
  same_rule r s own named same =
      let field : (n : ℕ) → field_at (quadruple_entry (said_of_quadruple before r)) n
      ≡ field_at (quadruple_entry (said_of_quadruple after s)) n =
      λ n. ap (λ (fields : List (List ℕ)). field_at fields n) same in
      let from = number_of before.states after.states is_state_name r.from s.from apart.states named.from (field 0) in
      let one = same_deed before.one after.one r.one s.one apart.one own.one named.one (field 1) (field 4) in
      let two = same_deed before.two after.two r.two s.two apart.two own.two named.two (field 2) (field 5) in
      let three = same_deed before.three after.three r.three s.three apart.three own.three named.three (field 3)
      (field 6) in
      let to = number_of before.states after.states is_state_name r.to s.to apart.states named.to (field 7) in
      λ i. record { from = from i; one = one i; two = two i; three = three i; to = to i }

  same_rules : (rs ss : List (Rule ℕ)) → All (RuleIsNamed before) rs → All (RuleIsNamed after) ss
      → quadruple_rows_by before rs ≡ quadruple_rows_by after ss → map (renumbered_rule renumbering) rs ≡ ss
  same_rules [] [] own named same = refl
  same_rules [] (s ∷ ss) own named same = absurd (cc)
  same_rules (r ∷ rs) [] own named same = absurd (cc)
  same_rules (r ∷ rs) (s ∷ ss) own named same =
      let first : quadruple_entry (said_of_quadruple before r) ≡ quadruple_entry (said_of_quadruple after s) =
      ap (λ (rows : List (List (List ℕ))). get_or rows 0 []) same in
      let rest : quadruple_rows_by before rs ≡ quadruple_rows_by after ss = ap tail same in
      let here = same_rule r s (own 0 r (omega arith)) (named 0 s (omega arith)) first in
      let more = same_rules rs ss (λ k d low. own (suc k) d (omega arith)) (λ k d low. named (suc k) d (omega arith))
      rest in
      λ i. here i ∷ more i
    where
      tail : List (List (List ℕ)) → List (List (List ℕ))
      tail [] = []
      tail (x ∷ xs) = xs

-- ---- each name that is read stands among those that were written

pub in_all : {X : Type 0} (P : X → Type 0) (xs : List X) (x : X) → All P xs → IsIn xs x → P x
in_all P xs x all h = by_place h.place h.stands
  where
    by_place : (n : ℕ) → nth xs n ≡ Some x → P x
    by_place zero at = absurd (cc)
    by_place (suc n) at = subst P (get_or_from_slice_get xs n x x at) (all n x (slice_get_within xs n x at))

-- a name of the list
abbrev Has : List (List ℕ) → List ℕ → Type 0
Has names name = (j : ℕ) × (slice_get names j ≡ Some name)

has_named : (form : List ℕ → Bool) (names : List (List ℕ)) (n : ℕ) → IsNamed form names n
    → Has names (slice_index_or names n [])
has_named form names n named = (n, named.1 ∙ ap Some (sym (get_or_from_slice_get names n named.0 [] named.1)))

module _ (names : Naming) (rs : List (Rule ℕ)) (all : All (RuleIsNamed names) rs) where
  state_has : (name : List ℕ) → IsIn (state_names_in (quadruple_rows_by names rs)) name → Has names.states name
  state_has name h =
      let row = from_flat_map (λ (fields : List (List ℕ)). field_at fields 0 ∷ field_at fields 7 ∷ [])
      (quadruple_rows_by names rs) name h in
      let rule = from_map (λ (r : Rule ℕ). quadruple_entry (said_of_quadruple names r)) rs row.0 row.1 in
      let named = in_all (RuleIsNamed names) rs rule.0 all rule.1 in
      let here : IsIn (slice_index_or names.states rule.0.from [] ∷ slice_index_or names.states rule.0.to [] ∷ [])
      name =
      subst (λ (fields : List (List ℕ)). IsIn (field_at fields 0 ∷ field_at fields 7 ∷ []) name) (sym rule.2) row.2 in
      each_of_two (Has names.states) (slice_index_or names.states rule.0.from [])
      (slice_index_or names.states rule.0.to []) (has_named is_state_name names.states rule.0.from named.from)
      (has_named is_state_name names.states rule.0.to named.to) name here

  -- the symbols of a deed's two fields
  deed_has : (tape : List (List ℕ)) (d : Deed) → DeedIsNamed tape d → (name : List ℕ)
      → IsIn (cond (bytes_eq (read_field (said_deed tape d)) slash) []
      (read_field (said_deed tape d) ∷ act_field (said_deed tape d) ∷ [])) name → Has tape name
  deed_has tape (Rewrite r w) named name h =
      let miss = no-slash (slice_index_or tape r []) (name_of_number tape is_symbol r named.0) in
      let here : IsIn (slice_index_or tape r [] ∷ slice_index_or tape w [] ∷ []) name =
      subst (λ b. IsIn (cond b [] (slice_index_or tape r [] ∷ slice_index_or tape w [] ∷ [])) name) miss h in
      each_of_two (Has tape) (slice_index_or tape r []) (slice_index_or tape w []) (has_named is_symbol tape r named.0)
      (has_named is_symbol tape w named.1) name here
  deed_has tape (Move s) named name h =
      let hit : bytes_eq slash slash ≡ true = (bytes_eq-Decides slash slash).1 refl in
      let here : IsIn [] name = subst (λ b. IsIn (cond b [] (slash ∷ shift_text s ∷ [])) name) hit h in
      absurd (not_in_empty name here)

  one_has : (name : List ℕ) → IsIn (symbol_names_in 1 (quadruple_rows_by names rs)) name → Has names.one name
  one_has name h =
      let row = from_flat_map (symbols_at 1) (quadruple_rows_by names rs) name h in
      let rule = from_map (λ (r : Rule ℕ). quadruple_entry (said_of_quadruple names r)) rs row.0 row.1 in
      deed_has names.one rule.0.one (in_all (RuleIsNamed names) rs rule.0 all rule.1).one name
      (subst (λ (fields : List (List ℕ)). IsIn (symbols_at 1 fields) name) (sym rule.2) row.2)

  two_has : (name : List ℕ) → IsIn (symbol_names_in 2 (quadruple_rows_by names rs)) name → Has names.two name
  two_has name h =
      let row = from_flat_map (symbols_at 2) (quadruple_rows_by names rs) name h in
      let rule = from_map (λ (r : Rule ℕ). quadruple_entry (said_of_quadruple names r)) rs row.0 row.1 in
      deed_has names.two rule.0.two (in_all (RuleIsNamed names) rs rule.0 all rule.1).two name
      (subst (λ (fields : List (List ℕ)). IsIn (symbols_at 2 fields) name) (sym rule.2) row.2)

  three_has : (name : List ℕ) → IsIn (symbol_names_in 3 (quadruple_rows_by names rs)) name → Has names.three name
  three_has name h =
      let row = from_flat_map (symbols_at 3) (quadruple_rows_by names rs) name h in
      let rule = from_map (λ (r : Rule ℕ). quadruple_entry (said_of_quadruple names r)) rs row.0 row.1 in
      deed_has names.three rule.0.three (in_all (RuleIsNamed names) rs rule.0 all rule.1).three name
      (subst (λ (fields : List (List ℕ)). IsIn (symbols_at 3 fields) name) (sym rule.2) row.2)

-- first appearances are apart, and stand in the list
pub firsts_once : (xs before : List (List ℕ)) → before ≡ firsts xs → (m n : ℕ) (name : List ℕ)
    → slice_get before m ≡ Some name → slice_get before n ≡ Some name → m ≡ n
firsts_once xs before is m n name a b =
    one_number bytes_eq bytes_eq-Decides (firsts xs) m n name (apart-firsts bytes_eq bytes_eq-Decides xs)
    (ap (λ (zs : List (List ℕ)). slice_get zs m) (sym is) ∙ a) (ap (λ (zs : List (List ℕ)). slice_get zs n) (sym is)
    ∙ b)

firsts_in : (xs before after : List (List ℕ)) → before ≡ firsts xs → ((name : List ℕ) → IsIn xs name → Has after name)
    → AreIn before after
firsts_in xs before after is each n name at =
    each name (in_from_firsts bytes_eq bytes_eq-Decides name xs n (ap (λ (zs : List (List ℕ)). slice_get zs n) (sym is)
    ∙ at))

with_blank : (xs after : List (List ℕ)) → slice_get after 0 ≡ Some blank_name
    → ((name : List ℕ) → IsIn xs name → Has after name) → (name : List ℕ) → IsIn (blank_name ∷ xs) name → Has after name
with_blank xs after blank each name h = elim (in_cases blank_name name xs h) [
  | inl same ↦ (0, blank ∙ ap Some same)
  | inr further ↦ each name further
]

pub first_of : (x : List ℕ) (xs : List (List ℕ)) → slice_get (firsts (x ∷ xs)) 0 ≡ Some x
unfolding firsts_by
first_of x xs = refl

-- the symbols of a tape
keeps : (xs before after : List (List ℕ)) → before ≡ firsts (blank_name ∷ xs) → AreApart after
    → slice_get after 0 ≡ Some blank_name → ((name : List ℕ) → IsIn xs name → Has after name)
    → KeepsSymbolsApart (renumber before after) (length before)
keeps xs before after is apart blank each =
    let are = firsts_in (blank_name ∷ xs) before after is (with_blank xs after blank each) in
    let first : slice_get before 0 ≡ Some blank_name = ap (λ (zs : List (List ℕ)). slice_get zs 0) is
    ∙ first_of blank_name xs in
    record {
      blank = apart.same blank_name (renumber before after 0) 0 (kept before after are 0 blank_name first) blank;
      apart = numbers_apart before after (firsts_once (blank_name ∷ xs) before is) are;
    }

-- ---- the table

-- a named quadruple has an entry in its forms
says_forms : (tape : List (List ℕ)) (d : Deed) → DeedIsNamed tape d → SaysHasForms (said_deed tape d)
says_forms tape (Rewrite r w) named = (name_of_number tape is_symbol r named.0, name_of_number tape is_symbol w named.1)
says_forms tape (Move s) named = tt

has_forms : (names : Naming) (r : Rule ℕ) → RuleIsNamed names r → HasForms (said_of_quadruple names r)
has_forms names r named = record {
  state = name_of_number names.states is_state_name r.from named.from;
  one = says_forms names.one r.one named.one;
  two = says_forms names.two r.two named.two;
  three = says_forms names.three r.three named.three;
  next = name_of_number names.states is_state_name r.to named.to;
}

module _ (entries : List (List (List ℕ))) (t : QuadTable) (is : IsQuadTableOf entries t) where
  -- a table has as many quadruples as entries
  pub as_many : length t.machine.rules ≡ length entries
  as_many = sym (length-map t.machine.rules (λ (r : Rule ℕ). quadruple_entry (said_of_quadruple t.names r)))
      ∙ ap (λ (zs : List (List (List ℕ))). length zs) is.spelled.rows

  -- a table's machine is a machine
  pub table_machine : IsQuadMachine t.machine
  table_machine =
      let some = is.some in
      let few = is.few in
      record {
        some = omega (arith, as_many);
        few = omega (arith, as_many);
        tapes = ap (λ (zs : List ℕ). length zs) is.symbols;
        in_range = subst (λ (states : ℕ). All (IsRuleInRange states t.machine.symbols) t.machine.rules) (sym is.states)
            (subst (λ (zs : List ℕ). All (IsRuleInRange (length t.names.states) zs) t.machine.rules)
            (sym is.symbols) is.spelled.in_range);
      }

module _ (m : Quadruples) (names : Naming) (machine : IsQuadMachine m) (has : HasNames m names)
    (tabled : AreTableNames names) (few : length m.rules ≤ MOST_ENTRIES) where
  abbrev rows : List (List (List ℕ))
  rows = quadruple_rows_by names m.rules

  all_rules : All (RuleIsNamed names) m.rules
  all_rules = all-named m names machine has

  long : length rows ≡ length m.rules
  long = length-map m.rules (λ (r : Rule ℕ). quadruple_entry (said_of_quadruple names r))

  pub read_as : (t : QuadTable) × IsQuadTableOf rows t
  read_as =
      reading_of rows
      (none_faulty refusal.Empty quadruple_entry_fault (λ (r : Rule ℕ). quadruple_entry (said_of_quadruple names r))
      (RuleIsNamed names) MOST_ENTRIES
      (λ n r low named. no_fault n (said_of_quadruple names r) low (has_forms names r named))
      rows m.rules refl (let some = machine.some in omega (arith, long)) (omega (arith, long)) all_rules)

  module _ (t : QuadTable) (is : IsQuadTableOf rows t) where
    own : All (RuleIsNamed t.names) t.machine.rules
    own = all-named t.machine t.names (table_machine rows t is) (table_has_names rows t is)

    states_in : AreIn t.names.states names.states
    states_in = firsts_in (state_names_in rows) t.names.states names.states is.spelled.states_by_first
        (state_has names m.rules all_rules)

    keeps_one : KeepsSymbolsApart (renumber t.names.one names.one) (length t.names.one)
    keeps_one = keeps (symbol_names_in 1 rows) t.names.one names.one is.spelled.one_by_first tabled.one tabled.one_blank
        (one_has names m.rules all_rules)

    keeps_two : KeepsSymbolsApart (renumber t.names.two names.two) (length t.names.two)
    keeps_two = keeps (symbol_names_in 2 rows) t.names.two names.two is.spelled.two_by_first tabled.two tabled.two_blank
        (two_has names m.rules all_rules)

    keeps_three : KeepsSymbolsApart (renumber t.names.three names.three) (length t.names.three)
    keeps_three = keeps (symbol_names_in 3 rows) t.names.three names.three is.spelled.three_by_first tabled.three
        tabled.three_blank (three_has names m.rules all_rules)

    counted : (n z count : ℕ) → nth (counts_of t.names) n ≡ Some count → nth t.machine.symbols n ≡ Some z → count ≡ z
    counted n z count known at = same_Some count z (sym known ∙ ap (λ (zs : List ℕ). nth zs n) (sym is.symbols) ∙ at)

    reads_back : ReadsBack m names t
    reads_back = record {
      renumbering = renumbering t.names names tabled;
      is_renumbering = record {
        rules = same_rules t.names names tabled t.machine.rules m.rules own all_rules is.spelled.rows;
        states = λ a b low high same. numbers_apart t.names.states names.states
            (firsts_once (state_names_in rows) t.names.states is.spelled.states_by_first) states_in a b
            (let e = is.states in omega arith) (let e = is.states in omega arith) same;
        one = λ z at. subst (KeepsSymbolsApart (renumber t.names.one names.one))
            (counted 1 z (length t.names.one) refl at) keeps_one;
        two = λ z at. subst (KeepsSymbolsApart (renumber t.names.two names.two))
            (counted 2 z (length t.names.two) refl at) keeps_two;
        three = λ z at. subst (KeepsSymbolsApart (renumber t.names.three names.three))
            (counted 3 z (length t.names.three) refl at) keeps_three;
      };
      machine = table_machine rows t is;
      states = kept t.names.states names.states states_in;
      one = kept t.names.one names.one
          (firsts_in (blank_name ∷ symbol_names_in 1 rows) t.names.one names.one is.spelled.one_by_first
          (with_blank (symbol_names_in 1 rows) names.one tabled.one_blank (one_has names m.rules all_rules)));
      two = kept t.names.two names.two
          (firsts_in (blank_name ∷ symbol_names_in 2 rows) t.names.two names.two is.spelled.two_by_first
          (with_blank (symbol_names_in 2 rows) names.two tabled.two_blank (two_has names m.rules all_rules)));
      three = kept t.names.three names.three
          (firsts_in (blank_name ∷ symbol_names_in 3 rows) t.names.three names.three is.spelled.three_by_first
          (with_blank (symbol_names_in 3 rows) names.three tabled.three_blank (three_has names m.rules all_rules)));
    }

pub written-back : WrittenMachinesReadBack
written-back m names text machine has tabled few is =
    let read = read_as m names machine has tabled few in
    let entries = entries-back m names text machine has is in (
      read.0,
      subst (λ es. IsQuadTableOf es read.0) (sym entries) read.1,
      reads_back m names machine has tabled few read.0 read.1,
    )
