-- Bytes have one reading, and have one exactly where their entries have no fault.
use Rattle.std.proofs.Common.{◌≡◌, ◌≤◌, ◌+◌, ◌∷◌, ◌++◌, ◌∙◌, ℕ, true, List, [], length, None, refl, sym, ap, arith}
use Rattle.std.proofs.Common.{length-append, All, subst}
use Rattle.std.specs.Prelude.{bytes_eq, slice_index_or}
use Rattle.std.specs.List.{list_all}
use Rattle.std.proofs.lemmas.List.Elements.{All-head, All-tail}
use Rattle.std.proofs.lemmas.Option.{slice_get-get_or}
use Rattle.std.proofs.lemmas.Slice.Eq.{bytes_eq-Decides}
use Rattle.bn_csv.specs.Forms.{is_state_name, is_symbol}
use Rattle.bn_csv.proofs.FormsLemmas.{all-at}
use Rattle.bn_csv.specs.Numbering.{with_name}
use Rattle.bn_csv.specs.NumberingLaws.{AreApart}
use Rattle.bn_csv.proofs.AddedLemmas.{first_number, last_number, same_at}
use Rattle.bn_csv.proofs.FaultLemmas.{in_number, kept_to_last, none_faulty}
use Rattle.bn_csv.proofs.NumberingLemmas.{apart-firsts}
use Rattle.bn_quad.specs.Names.{Naming, naming_of}
use Rattle.bn_quad.specs.Quadruples.{Deed, Rewrite, Move, Rule, IsDeedInRange, IsRuleInRange, quadruples_of}
use Rattle.bn_qtable.specs.Entry.{SaidQuadruple, Says, Rewrites, Moves, HasForms, SaysHasForms, quadruple_entry}
use Rattle.bn_qtable.specs.Entry.{read_field, act_field}
use Rattle.bn_qtable.specs.Draft.{Adds, Stands, blanks_alone, with_says}
use Rattle.bn_qtable.specs.Faults.{quadruple_entry_fault, quadruple_table_fault, quadruple_form_fault}
use Rattle.bn_qtable.specs.Rows.{IsQuadTableOf, QuadTable, SpellsQuadruples, blank_name, counts_of, quadruple_rows_by}
use Rattle.bn_qtable.specs.Rows.{said_deed, said_of_quadruple, state_names_in, symbol_names_in, table_of}
use Rattle.bn_qtable.specs.declared.entry.TheConstants.{MOST_ENTRIES}
use Rattle.bn_qtable.specs.declared.refusal.QuadTableRefusal.TheVariants as refusal
use Rattle.bn_qtable.proofs.Growing.{spells-more, spells-none}
use Rattle.bn_qtable.proofs.Passing.{no_fault, says-so, slash-is-none}
use Rattle.bn_machine.proofs.ShiftLemmas.{one_shift}

-- ---- one reading

abbrev pub Apart : List (List ℕ) → Type 0
Apart names = AreApart bytes_eq bytes_eq-Decides names

-- fields say one thing of a tape
one_says : (t u : Says) → SaysHasForms t → SaysHasForms u → read_field t ≡ read_field u → act_field t ≡ act_field u
    → t ≡ u
one_says (Rewrites a b) (Rewrites c d) h k e f = λ i. Rewrites (e i) (f i)
one_says (Rewrites a b) (Moves t) h k e f = absurd (slash-is-none (ap is_symbol (sym e) ∙ h.0))
one_says (Moves s) (Rewrites c d) h k e f = absurd (slash-is-none (ap is_symbol e ∙ k.0))
one_says (Moves s) (Moves t) h k e f = ap Moves (one_shift s t f)

same-deed : (names : List (List ℕ)) (d e : Deed) → Apart names → IsDeedInRange (length names) d
    → IsDeedInRange (length names) e
    → said_deed names d ≡ said_deed names e → d ≡ e
same-deed names (Rewrite a b) (Rewrite c d) apart h k e =
    let left : slice_index_or names a [] ≡ slice_index_or names c [] = cc in
    let right : slice_index_or names b [] ≡ slice_index_or names d [] = cc in
    let one : a ≡ c = same_at bytes_eq bytes_eq-Decides names [] a c apart h.0 k.0 left in
    let two : b ≡ d = same_at bytes_eq bytes_eq-Decides names [] b d apart h.1 k.1 right in
    λ i. Rewrite (one i) (two i)
same-deed names (Rewrite a b) (Move t) apart h k e = cc e
same-deed names (Move s) (Rewrite c d) apart h k e = cc e
same-deed names (Move s) (Move t) apart h k e = let one : s ≡ t = cc in ap Move one

-- what two equal entries say is equal
record SameSaid (s t : SaidQuadruple) : Type 0 where
  state : s.state ≡ t.state
  one : s.one ≡ t.one
  two : s.two ≡ t.two
  three : s.three ≡ t.three
  next : s.next ≡ t.next

same-said : (s t : SaidQuadruple) → HasForms s → HasForms t → quadruple_entry s ≡ quadruple_entry t → SameSaid s t
same-said s t h k e =
    let r1 : read_field s.one ≡ read_field t.one = cc in
    let r2 : read_field s.two ≡ read_field t.two = cc in
    let r3 : read_field s.three ≡ read_field t.three = cc in
    let a1 : act_field s.one ≡ act_field t.one = cc in
    let a2 : act_field s.two ≡ act_field t.two = cc in
    let a3 : act_field s.three ≡ act_field t.three = cc in
    record {
      state = cc;
      one = one_says s.one t.one h.one k.one r1 a1;
      two = one_says s.two t.two h.two k.two r2 a2;
      three = one_says s.three t.three h.three k.three r3 a3;
      next = cc;
    }

-- the names have their forms, and no two on one list are the same
pub record Good (n : Naming) : Type 0 where
  pub states : Apart n.states
  pub one : Apart n.one
  pub two : Apart n.two
  pub three : Apart n.three
  pub states_form : list_all is_state_name n.states ≡ true
  pub one_form : list_all is_symbol n.one ≡ true
  pub two_form : list_all is_symbol n.two ≡ true
  pub three_form : list_all is_symbol n.three ≡ true

pub good : (n : Naming) (rules : List (Rule ℕ)) (entries : List (List (List ℕ))) → SpellsQuadruples n rules entries
    → Good n
good n rules entries h = record {
  states = rw (← h.states_by_first) at (apart-firsts bytes_eq bytes_eq-Decides (state_names_in entries));
  one = rw (← h.one_by_first) at (apart-firsts bytes_eq bytes_eq-Decides (blank_name ∷ symbol_names_in 1 entries));
  two = rw (← h.two_by_first) at (apart-firsts bytes_eq bytes_eq-Decides (blank_name ∷ symbol_names_in 2 entries));
  three = rw (← h.three_by_first) at (apart-firsts bytes_eq bytes_eq-Decides (blank_name ∷ symbol_names_in 3 entries));
  states_form = h.states_form;
  one_form = h.one_form;
  two_form = h.two_form;
  three_form = h.three_form;
}

deed-forms : (names : List (List ℕ)) (d : Deed) → list_all is_symbol names ≡ true → IsDeedInRange (length names) d
    → SaysHasForms (said_deed names d)
deed-forms names (Rewrite r w) f h = (
  all-at is_symbol names r _ f (slice_get-get_or names r [] h.0),
  all-at is_symbol names w _ f (slice_get-get_or names w [] h.1),
)
deed-forms names (Move s) f h = tt

pub row-forms : (n : Naming) (r : Rule ℕ) → Good n → IsRuleInRange (length n.states) (counts_of n) r
    → HasForms (said_of_quadruple n r)
row-forms n r g h = record {
  state = all-at is_state_name n.states r.from _ g.states_form (slice_get-get_or n.states r.from [] h.from);
  one = deed-forms n.one r.one g.one_form h.deeds.0;
  two = deed-forms n.two r.two g.two_form h.deeds.1.0;
  three = deed-forms n.three r.three g.three_form h.deeds.1.1.0;
  next = all-at is_state_name n.states r.to _ g.states_form (slice_get-get_or n.states r.to [] h.to);
}

same-rule : (n : Naming) (q r : Rule ℕ) → Good n → IsRuleInRange (length n.states) (counts_of n) q
    → IsRuleInRange (length n.states) (counts_of n) r
    → quadruple_entry (said_of_quadruple n q) ≡ quadruple_entry (said_of_quadruple n r) → q ≡ r
same-rule n q r g h k e =
    let same = same-said (said_of_quadruple n q) (said_of_quadruple n r) (row-forms n q g h) (row-forms n r g k) e in
    let a = same_at bytes_eq bytes_eq-Decides n.states [] q.from r.from g.states h.from k.from same.state in
    let b = same-deed n.one q.one r.one g.one h.deeds.0 k.deeds.0 same.one in
    let c = same-deed n.two q.two r.two g.two h.deeds.1.0 k.deeds.1.0 same.two in
    let d = same-deed n.three q.three r.three g.three h.deeds.1.1.0 k.deeds.1.1.0 same.three in
    let f = same_at bytes_eq bytes_eq-Decides n.states [] q.to r.to g.states h.to k.to same.next in
    λ i. record { from = a i; one = b i; two = c i; three = d i; to = f i }

same-rows : (n : Naming) → Good n → (qs rs : List (Rule ℕ)) → All (IsRuleInRange (length n.states) (counts_of n)) qs
    → All (IsRuleInRange (length n.states) (counts_of n)) rs
    → quadruple_rows_by n qs ≡ quadruple_rows_by n rs → qs ≡ rs
same-rows n g [] [] h k e = refl
same-rows n g [] (r ∷ rs) h k e = cc e
same-rows n g (q ∷ qs) [] h k e = cc e
same-rows n g (q ∷ qs) (r ∷ rs) h k e =
    let In : Rule ℕ → Type 0 = IsRuleInRange (length n.states) (counts_of n) in
    let head : quadruple_entry (said_of_quadruple n q) ≡ quadruple_entry (said_of_quadruple n r) = cc in
    let tail : quadruple_rows_by n qs ≡ quadruple_rows_by n rs = cc in
    let one : q ≡ r = same-rule n q r g (All-head In q qs h) (All-head In r rs k) head in
    let rest : qs ≡ rs = same-rows n g qs rs (All-tail In q qs h) (All-tail In r rs k) tail in
    λ i. one i ∷ rest i

one-spelling : (entries : List (List (List ℕ))) (n n2 : Naming) (qs rs : List (Rule ℕ)) → n2 ≡ n
    → SpellsQuadruples n qs entries → SpellsQuadruples n2 rs entries → qs ≡ rs
one-spelling entries n n2 qs rs e h k =
    let P : Naming → Type 0 = λ m. SpellsQuadruples m rs entries in
    let other : SpellsQuadruples n rs entries = subst P e k in
    same-rows n (good n qs entries h) qs rs h.in_range other.in_range (h.rows ∙ sym other.rows)

pub one_reading : (entries : List (List (List ℕ))) (t u : QuadTable) → IsQuadTableOf entries t → IsQuadTableOf entries u
    → t ≡ u
one_reading entries t u h k =
    let a = h.spelled.states_by_first ∙ sym k.spelled.states_by_first in
    let b = h.spelled.one_by_first ∙ sym k.spelled.one_by_first in
    let c = h.spelled.two_by_first ∙ sym k.spelled.two_by_first in
    let d = h.spelled.three_by_first ∙ sym k.spelled.three_by_first in
    let names : t.names ≡ u.names = λ i. record { states = a i; one = b i; two = c i; three = d i } in
    let rules = one-spelling entries t.names u.names t.machine.rules u.machine.rules (sym names) h.spelled k.spelled in
    let states : t.machine.states ≡ u.machine.states = h.states ∙ ap (λ (n : Naming). length n.states) names
    ∙ sym k.states in
    let symbols : t.machine.symbols ≡ u.machine.symbols = h.symbols ∙ ap counts_of names ∙ sym k.symbols in
    λ i. record { machine = record { rules = rules i; states = states i; symbols = symbols i }; names = names i }

-- ---- a reading or a fault

some-deed : (names : List (List ℕ)) (t : Says) → (d : Deed) × Stands (with_says names t) d t
some-deed names (Rewrites r w) =
    let (m, first) = first_number bytes_eq bytes_eq-Decides names r w in
    let (n, last) = last_number bytes_eq bytes_eq-Decides (with_name names r) w in
    (Rewrite m n, (first, last))
some-deed names (Moves s) = (Move s, refl)

-- the names and quadruples of entries
record Spelling (entries : List (List (List ℕ))) : Type 0 where
  names : Naming
  rules : List (Rule ℕ)
  spells : SpellsQuadruples names rules entries
  few : length entries ≤ MOST_ENTRIES

one-more : (n : Naming) (rules : List (Rule ℕ)) (done : List (List (List ℕ))) (s : SaidQuadruple) → HasForms s
    → SpellsQuadruples n rules done → length done + 1 ≤ MOST_ENTRIES
    → Spelling (done ++ quadruple_entry s ∷ [])
one-more n rules done s f h few =
    let (from, first) = first_number bytes_eq bytes_eq-Decides n.states s.state s.next in
    let (to, last) = last_number bytes_eq bytes_eq-Decides (with_name n.states s.state) s.next in
    let (one, stands1) = some-deed n.one s.one in
    let (two, stands2) = some-deed n.two s.two in
    let (three, stands3) = some-deed n.three s.three in
    let r : Rule ℕ = record { from = from; one = one; two = two; three = three; to = to } in
    let n2 : Naming = naming_of (with_name (with_name n.states s.state) s.next) (with_says n.one s.one)
    (with_says n.two s.two) (with_says n.three s.three) in
    let adds : Adds n s r n2 = record {
      states_after = refl;
      one_after = refl;
      two_after = refl;
      three_after = refl;
      from = first;
      one = stands1;
      two = stands2;
      three = stands3;
      to = last;
      forms = f;
    } in
    record {
      names = n2;
      rules = rules ++ r ∷ [];
      spells = spells-more n rules done s r n2 h adds;
      few = omega (arith, length-append done (quadruple_entry s ∷ []));
    }

nothing : Spelling []
nothing = record { names = blanks_alone; rules = []; spells = spells-none; few = omega arith }

next-spelling : (done : List (List (List ℕ))) (fields : List (List ℕ)) → Spelling done
    → quadruple_entry_fault (length done + 1) fields ≡ None → Spelling (done ++ fields ∷ [])
next-spelling done fields so here =
    let x = says-so (length done + 1) fields here in
    let few = (in_number MOST_ENTRIES refusal.TooMany quadruple_form_fault (length done + 1) fields here).0 in
    let P : List (List ℕ) → Type 0 = λ f. Spelling (done ++ f ∷ []) in
    subst P (sym x.is) (one-more so.names so.rules done x.what x.forms so.spells few)

pub reading_of : (entries : List (List (List ℕ))) → quadruple_table_fault entries ≡ None
    → (t : QuadTable) × IsQuadTableOf entries t
reading_of entries e =
    let (some, so) = kept_to_last refusal.Empty quadruple_entry_fault Spelling nothing next-spelling entries e in (
      table_of (quadruples_of so.rules (length so.names.states) (counts_of so.names)) so.names,
      record { spelled = so.spells; some = some; few = so.few; states = refl; symbols = refl },
    )

pub no_fault_of : (entries : List (List (List ℕ))) (t : QuadTable) → IsQuadTableOf entries t
    → quadruple_table_fault entries ≡ None
no_fault_of entries t h =
    let s = h.spelled in
    let In : Rule ℕ → Type 0 = IsRuleInRange (length t.names.states) (counts_of t.names) in
    let g = good t.names t.machine.rules entries s in
    none_faulty refusal.Empty quadruple_entry_fault (λ (r : Rule ℕ). quadruple_entry (said_of_quadruple t.names r)) In
    MOST_ENTRIES
    (λ n r few within. no_fault n (said_of_quadruple t.names r) few (row-forms t.names r g within))
    entries t.machine.rules s.rows h.some h.few s.in_range
