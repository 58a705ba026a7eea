-- `inverse` has one answer to all bytes, and twice it gives the first table's entries.
use Rattle.std.specs.Prelude.{◌≡◌, ℕ, List, [], ◌∷◌, ◌++◌, length, map, reverse, All, cond, bytes_eq, refl, ◌⊎◌}
use Rattle.std.proofs.Common.{arith, sym, ap, subst, ◌∙◌, inl, inr}
use Rattle.std.proofs.lemmas.List.{length-map, length-reverse, map-append, reverse-append}
use Rattle.std.proofs.lemmas.List.Elements.{All-head, All-tail}
use Rattle.bn_csv.specs.Entries.{entries_of, field_at}
use Rattle.bn_csv.proofs.FaultLemmas.{none_faulty}
use Rattle.bn_machine.specs.Shifts.{shift_text}
use Rattle.bn_machine.specs.Tape.{opposite}
use Rattle.bn_machine.specs.declared.quint.Shift.{Shift}
use Rattle.bn_machine.specs.declared.quint.Shift.TheVariants.{Left, Stay, Right}
use Rattle.bn_quad.specs.Names.{Naming}
use Rattle.bn_quad.specs.Quadruples.{Deed, Rewrite, Move, Rule, Quadruples, IsQuadMachine, IsRuleInRange, quadruples_of}
use Rattle.bn_quad.specs.Quadruples.{inverse_of, turned, turned_deed, turned_list}
use Rattle.bn_qtable.specs.Entry.{HasForms, SaysHasForms, quadruple_entry, read_field, act_field, slash}
use Rattle.bn_qtable.specs.Faults.{quadruple_table_fault, quadruple_entry_fault}
use Rattle.bn_qtable.specs.Named.{HasNames}
use Rattle.bn_qtable.specs.Reading.{ReadsQuadruples}
use Rattle.bn_qtable.specs.Rows.{QuadTable, IsQuadTableOf, quadruple_rows_by, said_deed, said_of_quadruple, counts_of}
use Rattle.bn_qtable.specs.Rows.{table_of}
use Rattle.bn_qtable.specs.declared.entry.TheConstants.{MOST_ENTRIES}
use Rattle.bn_qtable.specs.declared.refusal.QuadTableRefusal.TheVariants as refusal
use Rattle.bn_qtable.proofs.Passing.{no-slash, no_fault}
use Rattle.bn_qtable.proofs.ReadingLaws.{Good, good, row-forms, no_fault_of, one_reading, reading_of}
use Rattle.bn_qtable.proofs.RowsLemmas.{table_has_names}
use Rattle.bn_qtable.proofs.Writing.{entries-back}
use Rattle.bn_erase_laws.proofs.InverseLemmas.{inverse_machine, inverse_twice}
use Rattle.bn_circuits.specs.declared.place.Place.{Place}
use Rattle.bn_reply.specs.Answering.{HasAnswer, IsOneAnswer}
use Rattle.bn_reply.specs.Codes.{IsReplyStatus}
use Rattle.bn_reply.proofs.SettledLemmas.{agree}
use Rattle.bn_reply.proofs.TableLemmas.{first_once, read_or_told}
use Rattle.bn_reply.specs.declared.status.Status.{Status}
use Rattle.bn_reply.specs.declared.status.Status.TheVariants as statuses
use Rattle.bn_reply_machines.specs.InverseReply.{InverseReplies, faulty, inverted, inverse_text, InverseIsSettled}
use Rattle.bn_reply_machines.specs.InverseReply.{InverseTwice}
use Rattle.bn_reply_machines.specs.ReversibleReply.{TellsQuadFault, quad_fault_line}

-- the inverse has the machine's states and symbols, and so their names
pub inverse_names : (m : Quadruples) (n : Naming) → HasNames m n → HasNames (inverse_of m) n
inverse_names m n h = record { states = h.states; one = h.one; two = h.two; three = h.three }

-- ---- an entry turned round

-- the text of the opposite shift
turned_shift : List ℕ → List ℕ
turned_shift field = cond (bytes_eq field (shift_text Left)) (shift_text Right)
    (cond (bytes_eq field (shift_text Right)) (shift_text Left) field)

shift_turned : (s : Shift) → shift_text (opposite s) ≡ turned_shift (shift_text s)
unfolding turned_shift
shift_turned Left = refl
shift_turned Stay = refl
shift_turned Right = refl

-- the two fields of a tape, turned round
turned_read : List ℕ → List ℕ → List ℕ
turned_read read act = cond (bytes_eq read slash) slash act

turned_act : List ℕ → List ℕ → List ℕ
turned_act read act = cond (bytes_eq read slash) (turned_shift act) read

turned_entry : List (List ℕ) → List (List ℕ)
turned_entry e =
    field_at e 7 ∷ turned_read (field_at e 1) (field_at e 4) ∷ turned_read (field_at e 2) (field_at e 5)
    ∷ turned_read (field_at e 3) (field_at e 6) ∷ turned_act (field_at e 1) (field_at e 4)
    ∷ turned_act (field_at e 2) (field_at e 5) ∷ turned_act (field_at e 3) (field_at e 6) ∷ field_at e 0 ∷ []

read_turned : (names : List (List ℕ)) (d : Deed) → SaysHasForms (said_deed names d)
    → read_field (said_deed names (turned_deed d))
    ≡ turned_read (read_field (said_deed names d)) (act_field (said_deed names d))
unfolding turned_read
read_turned names (Rewrite r w) forms =
    sym (ap (λ b. cond b slash (act_field (said_deed names (Rewrite r w))))
    (no-slash (read_field (said_deed names (Rewrite r w))) forms.0))
read_turned names (Move s) forms = refl

act_turned : (names : List (List ℕ)) (d : Deed) → SaysHasForms (said_deed names d)
    → act_field (said_deed names (turned_deed d))
    ≡ turned_act (read_field (said_deed names d)) (act_field (said_deed names d))
unfolding turned_act
act_turned names (Rewrite r w) forms =
    sym (ap (λ b. cond b (turned_shift (act_field (said_deed names (Rewrite r w))))
    (read_field (said_deed names (Rewrite r w)))) (no-slash (read_field (said_deed names (Rewrite r w))) forms.0))
act_turned names (Move s) forms = shift_turned s

row_turned : (n : Naming) (r : Rule ℕ) → HasForms (said_of_quadruple n r)
    → quadruple_entry (said_of_quadruple n (turned r)) ≡ turned_entry (quadruple_entry (said_of_quadruple n r))
unfolding turned_entry
row_turned n r h =
    let a = read_turned n.one r.one h.one in
    let b = read_turned n.two r.two h.two in
    let c = read_turned n.three r.three h.three in
    let d = act_turned n.one r.one h.one in
    let e = act_turned n.two r.two h.two in
    let f = act_turned n.three r.three h.three in
    λ i. (said_of_quadruple n (turned r)).state ∷ a i ∷ b i ∷ c i ∷ d i ∷ e i ∷ f i
    ∷ (said_of_quadruple n (turned r)).next ∷ []

-- ---- the entries of the inverse

abbrev InRange : Naming → Rule ℕ → Type 0
InRange n = IsRuleInRange (length n.states) (counts_of n)

rows_turned : (n : Naming) → Good n → (rs : List (Rule ℕ)) → All (InRange n) rs
    → quadruple_rows_by n (turned_list rs) ≡ reverse (map turned_entry (quadruple_rows_by n rs))
rows_turned n g [] all = refl
rows_turned n g (r ∷ rs) all =
    let row : Rule ℕ → List (List ℕ) = λ s. quadruple_entry (said_of_quadruple n s) in
    let here : row (turned r) ≡ turned_entry (row r) =
    row_turned n r (row-forms n r g (All-head (InRange n) r rs all)) in
    let rest : map row (turned_list rs) ≡ reverse (map turned_entry (map row rs)) =
    rows_turned n g rs (All-tail (InRange n) r rs all) in
    let back : turned_list (r ∷ rs) ≡ turned_list rs ++ (turned r ∷ []) = ap (map turned) (reverse-append (r ∷ []) rs)
    ∙ map-append turned (reverse rs) (r ∷ []) in
    ap (map row) back ∙ map-append row (turned_list rs) (turned r ∷ []) ∙ (λ i. rest i ++ (here i ∷ []))
    ∙ sym (reverse-append (turned_entry (row r) ∷ []) (map turned_entry (map row rs)))

module _ (entries : List (List (List ℕ))) (t : QuadTable) (is : IsQuadTableOf entries t) where
  -- the table's machine, with the numbers of its names
  abbrev own : Quadruples
  own = quadruples_of t.machine.rules (length t.names.states) (counts_of t.names)

  own_table : IsQuadTableOf entries (table_of own t.names)
  own_table = record { spelled = is.spelled; some = is.some; few = is.few; states = refl; symbols = refl }

  long : length t.machine.rules ≡ length entries
  long = sym (length-map t.machine.rules (λ (r : Rule ℕ). quadruple_entry (said_of_quadruple t.names r)))
      ∙ ap (λ (zs : List (List (List ℕ))). length zs) is.spelled.rows

  own_machine : IsQuadMachine own
  own_machine =
      let some = is.some in
      let few = is.few in
      record { some = omega (arith, long); few = omega (arith, long); tapes = refl; in_range = is.spelled.in_range }

  forms : Good t.names
  forms = good t.names t.machine.rules entries is.spelled

  turned_machine : IsQuadMachine (inverse_of own)
  turned_machine = inverse_machine own own_machine

  turned_names : HasNames (inverse_of own) t.names
  turned_names = inverse_names own t.names (table_has_names entries (table_of own t.names) own_table)

  abbrev turned_rows : List (List (List ℕ))
  turned_rows = quadruple_rows_by t.names (turned_list t.machine.rules)

  -- they are the table's, turned round and in the opposite order
  are_turned : turned_rows ≡ reverse (map turned_entry entries)
  are_turned = rows_turned t.names forms t.machine.rules is.spelled.in_range
      ∙ ap (λ rows. reverse (map turned_entry rows)) is.spelled.rows

  -- and so are the table's those of the inverse
  turned_back : reverse (map turned_entry turned_rows) ≡ entries
  turned_back =
      sym (rows_turned t.names forms (turned_list t.machine.rules) turned_machine.in_range)
      ∙ ap (λ (m : Quadruples). quadruple_rows_by t.names m.rules) (inverse_twice own) ∙ is.spelled.rows

  written : (text : List ℕ) → text ≡ inverse_text t → entries_of text ≡ turned_rows
  written text same = entries-back (inverse_of own) t.names text turned_machine turned_names same

  reads : (u : QuadTable) × IsQuadTableOf turned_rows u
  reads =
      let low = turned_machine.some in
      let few = is.few in
      let count : length turned_rows ≡ length (turned_list t.machine.rules) =
      length-map (turned_list t.machine.rules) (λ (r : Rule ℕ). quadruple_entry (said_of_quadruple t.names r)) in
      let same : length turned_rows ≡ length entries = ap (λ (rows : List (List (List ℕ))). length rows) are_turned
      ∙ length-reverse (map turned_entry entries) ∙ length-map entries turned_entry in
      reading_of turned_rows
      (none_faulty refusal.Empty quadruple_entry_fault (λ (r : Rule ℕ). quadruple_entry (said_of_quadruple t.names r))
      (InRange t.names) MOST_ENTRIES
      (λ n r within range. no_fault n (said_of_quadruple t.names r) within (row-forms t.names r forms range))
      turned_rows (turned_list t.machine.rules) refl (omega (arith, count))
      (omega (arith, same)) turned_machine.in_range)

-- ---- twice

twice_of : (bytes text : List ℕ) (t : QuadTable) → ReadsQuadruples bytes t → text ≡ inverse_text t
    → (again : List ℕ) × InverseReplies text statuses.Done again [] × (entries_of again ≡ entries_of bytes)
twice_of bytes text t is same =
    let rows = written (entries_of bytes) t is text same in
    let found = reads (entries_of bytes) t is in
    let u = found.0 in
    let reads_text : ReadsQuadruples text u = subst (λ es. IsQuadTableOf es u) (sym rows) found.1 in
    let first = written (entries_of text) u reads_text (inverse_text u) refl in
    let second = are_turned (entries_of text) u reads_text in
    let back = turned_back (entries_of bytes) t is in (
      inverse_text u,
      inverted u reads_text refl refl refl,
      first ∙ second ∙ ap (λ es. reverse (map turned_entry es)) rows ∙ back,
    )

pub inverse-twice : InverseTwice
inverse-twice bytes text (faulty h e n) = absurd (let both : statuses.Done ≡ statuses.Text = e in cc)
inverse-twice bytes text (inverted t is same e n) = twice_of bytes text t is same

-- ---- one answer

module _ (bytes : List ℕ) where
  inverse_some : ((t : QuadTable) × ReadsQuadruples bytes t) ⊎ ((text : List ℕ) × TellsQuadFault bytes text)
      → HasAnswer (InverseReplies bytes)
  inverse_some (inl t) = (statuses.Done, inverse_text t.0, [], inverted t.0 t.1 refl refl refl)
  inverse_some (inr f) = (statuses.Text, f.0, [], faulty f.1 refl refl)

  inverse_one : IsOneAnswer (InverseReplies bytes)
  inverse_one s u a b x y (faulty h e n) (faulty k f m) = agree statuses.Text s u a b x y e f
      (first_once (ReadsQuadruples bytes) (quadruple_table_fault (entries_of bytes)) quad_fault_line a b h k) n m
  inverse_one s u a b x y (faulty h e n) (inverted t at k f m) = absurd (h.unread t at)
  inverse_one s u a b x y (inverted t at h e n) (faulty k f m) = absurd (k.unread t at)
  inverse_one s u a b x y (inverted t at h e n) (inverted v also k f m) =
      let tables : t ≡ v = one_reading (entries_of bytes) t v at also in
      agree statuses.Done s u a b x y e f (h ∙ ap inverse_text tables ∙ sym k) n m

  inverse_status : (s : Status) (text : List ℕ) (told : List Place) → InverseReplies bytes s text told → IsReplyStatus s
  inverse_status s text told (faulty h e n) = subst IsReplyStatus (sym e) tt
  inverse_status s text told (inverted t at same e n) = subst IsReplyStatus (sym e) tt

pub inverse_settled : InverseIsSettled
inverse_settled bytes = record {
  some = inverse_some bytes
      (read_or_told (ReadsQuadruples bytes) (quadruple_table_fault (entries_of bytes)) quad_fault_line
      (λ none. reading_of (entries_of bytes) none, λ r. no_fault_of (entries_of bytes) r.0 r.1));
  one = inverse_one bytes;
  status = inverse_status bytes;
}
