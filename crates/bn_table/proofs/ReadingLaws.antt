-- Bytes have one reading, and have one exactly where their entries have no fault.
use Rattle.std.proofs.Common.{◌≡◌, ◌≤◌, ◌+◌, ◌∷◌, ◌++◌, ◌∙◌, ℕ, true, List, [], length, None, refl, sym, ap, arith}
use Rattle.std.proofs.Common.{nat_eq, length-append, All}
use Rattle.std.specs.Prelude.{bytes_eq}
use Rattle.std.specs.List.{list_all}
use Rattle.std.proofs.lemmas.Bool.Decides.{Decides-eqb}
use Rattle.std.proofs.lemmas.List.Elements.{All-head, All-tail}
use Rattle.std.proofs.lemmas.Option.{slice_get-get_or}
use Rattle.std.proofs.lemmas.Slice.Eq.{bytes_eq-Decides}
use Rattle.bn_csv.specs.Forms.{is_state_name, is_symbol_byte}
use Rattle.bn_csv.proofs.FormsLemmas.{all-at}
use Rattle.bn_csv.specs.Numbering.{with_name}
use Rattle.bn_csv.specs.NumberingLaws.{AreApart}
use Rattle.bn_csv.proofs.AddedLemmas.{first_number, last_number, same_at}
use Rattle.bn_csv.proofs.FaultLemmas.{kept_to_last, none_faulty}
use Rattle.bn_csv.proofs.NumberingLemmas.{apart-firsts}
use Rattle.bn_machine.specs.Machine.{IsInRange, program_of}
use Rattle.bn_machine.specs.declared.quint.Quint.{Quint}
use Rattle.bn_table.specs.Entry.{Said, HasForms, entry_of}
use Rattle.bn_machine.specs.Shifts.{shift_text}
use Rattle.bn_table.specs.Faults.{entry_fault, table_fault}
use Rattle.bn_table.specs.Rows.{IsTableOf, Named, SpellsQuintuples, blank, letters_in, named_program, names_in, rows_by}
use Rattle.bn_table.specs.Rows.{with_letter}
use Rattle.bn_table.proofs.SaidLemmas.{said_of}
use Rattle.bn_table.specs.declared.entry.TheConstants.{MOST_ENTRIES}
use Rattle.bn_table.specs.declared.refusal.TableRefusal.TheVariants as refusal
use Rattle.bn_table.proofs.Growing.{Adds, spells-more, spells-none}
use Rattle.bn_table.proofs.Passing.{no_fault, says}
use Rattle.bn_machine.proofs.ShiftLemmas.{one_shift}

-- ---- one reading

same-quint : (q r : Quint) → q.state ≡ r.state → q.read ≡ r.read → q.write ≡ r.write → q.shift ≡ r.shift
    → q.next ≡ r.next → q ≡ r
same-quint q r a b c d e = λ i. record { state = a i; read = b i; write = c i; shift = d i; next = e i }

-- what two equal entries say is equal
record SameSaid (s t : Said) : Type 0 where
  state : s.state ≡ t.state
  read : s.read ≡ t.read
  write : s.write ≡ t.write
  shift : shift_text s.shift ≡ shift_text t.shift
  next : s.next ≡ t.next

same-said : (s t : Said) → entry_of s ≡ entry_of t → SameSaid s t
same-said s t e = record { state = cc; read = cc; write = cc; shift = cc; next = cc }

same-rows : (names : List (List ℕ)) (letters : List ℕ) → AreApart bytes_eq bytes_eq-Decides names
    → AreApart nat_eq Decides-eqb letters
    → (qs rs : List Quint) → All (IsInRange (length names) (length letters)) qs
    → All (IsInRange (length names) (length letters)) rs
    → rows_by names letters qs ≡ rows_by names letters rs → qs ≡ rs
same-rows names letters a b [] [] h k e = refl
same-rows names letters a b [] (r ∷ rs) h k e = cc e
same-rows names letters a b (q ∷ qs) [] h k e = cc e
same-rows names letters a b (q ∷ qs) (r ∷ rs) h k e =
    let In : Quint → Type 0 = IsInRange (length names) (length letters) in
    let here : IsInRange (length names) (length letters) q = All-head In q qs h in
    let there : IsInRange (length names) (length letters) r = All-head In r rs k in
    let head : entry_of (said_of names letters q) ≡ entry_of (said_of names letters r) = cc in
    let tail : rows_by names letters qs ≡ rows_by names letters rs = cc in
    let same = same-said (said_of names letters q) (said_of names letters r) head in
    let one : q ≡ r = same-quint q r
    (same_at bytes_eq bytes_eq-Decides names [] q.state r.state a here.state there.state same.state)
    (same_at nat_eq Decides-eqb letters 0 q.read r.read b here.read there.read same.read)
    (same_at nat_eq Decides-eqb letters 0 q.write r.write b here.write there.write same.write)
    (one_shift q.shift r.shift same.shift)
    (same_at bytes_eq bytes_eq-Decides names [] q.next r.next a here.next there.next same.next) in
    let rest : qs ≡ rs = same-rows names letters a b qs rs (All-tail In q qs h) (All-tail In r rs k) tail in
    λ i. one i ∷ rest i

one-spelling : (entries : List (List (List ℕ))) (names names2 : List (List ℕ)) (letters letters2 : List ℕ)
    (qs rs : List Quint)
    → names2 ≡ names → letters2 ≡ letters → SpellsQuintuples names letters qs entries
    → SpellsQuintuples names2 letters2 rs entries → qs ≡ rs
one-spelling entries names names2 letters letters2 qs rs e f h k =
    let apart = rw (← h.names_by_first) at (apart-firsts bytes_eq bytes_eq-Decides (names_in entries)) in
    let free = rw (← h.letters_by_first) at (apart-firsts nat_eq Decides-eqb (blank ∷ letters_in entries)) in
    let other : SpellsQuintuples names letters rs entries = rw (e, f) at k in
    same-rows names letters apart free qs rs h.in_range other.in_range (h.rows ∙ sym other.rows)

pub one_reading : (entries : List (List (List ℕ))) (t u : Named) → IsTableOf entries t → IsTableOf entries u → t ≡ u
one_reading entries t u h k =
    let names : u.names ≡ t.names = k.spelled.names_by_first ∙ sym h.spelled.names_by_first in
    let letters : u.letters ≡ t.letters = k.spelled.letters_by_first ∙ sym h.spelled.letters_by_first in
    let quints = one-spelling entries t.names u.names t.letters u.letters t.machine.quints u.machine.quints names
    letters h.spelled k.spelled in
    let states : t.machine.states ≡ u.machine.states = h.states ∙ ap (λ (xs : List (List ℕ)). length xs) (sym names)
    ∙ sym k.states in
    let symbols : t.machine.symbols ≡ u.machine.symbols = h.symbols ∙ ap (λ (xs : List ℕ). length xs) (sym letters)
    ∙ sym k.symbols in
    λ i. record {
      machine = record { quints = quints i; states = states i; symbols = symbols i };
      names = sym names i;
      letters = sym letters i;
    }

-- ---- a reading or a fault

-- the names, letters and quintuples of entries
record Spelling (entries : List (List (List ℕ))) : Type 0 where
  names : List (List ℕ)
  letters : List ℕ
  quints : List Quint
  spells : SpellsQuintuples names letters quints entries
  few : length entries ≤ MOST_ENTRIES

one-more : (names : List (List ℕ)) (letters : List ℕ) (quints : List Quint) (done : List (List (List ℕ))) (s : Said)
    → HasForms s → SpellsQuintuples names letters quints done → length done + 1 ≤ MOST_ENTRIES
    → Spelling (done ++ entry_of s ∷ [])
one-more names letters quints done s f h few =
    let (n1, state) = first_number bytes_eq bytes_eq-Decides names s.state s.next in
    let (n2, next) = last_number bytes_eq bytes_eq-Decides (with_name names s.state) s.next in
    let (k1, read) = first_number nat_eq Decides-eqb letters s.read s.write in
    let (k2, write) = last_number nat_eq Decides-eqb (with_letter letters s.read) s.write in
    let q : Quint = record { state = n1; read = k1; write = k2; shift = s.shift; next = n2 } in
    let adds : Adds names letters s q (with_name (with_name names s.state) s.next)
    (with_letter (with_letter letters s.read) s.write) = record {
      names_after = refl;
      letters_after = refl;
      state = state;
      read = read;
      write = write;
      next = next;
      shift = refl;
      forms = f;
    } in
    record {
      names = with_name (with_name names s.state) s.next;
      letters = with_letter (with_letter letters s.read) s.write;
      quints = quints ++ q ∷ [];
      spells = spells-more names letters quints done s q _ _ h adds;
      few = omega (arith, length-append done (entry_of s ∷ []));
    }

nothing : Spelling []
nothing = record { names = []; letters = blank ∷ []; quints = []; spells = spells-none; few = omega arith }

next-spelling : (done : List (List (List ℕ))) (fields : List (List ℕ)) → Spelling done
    → entry_fault (length done + 1) fields ≡ None → Spelling (done ++ fields ∷ [])
next-spelling done fields so here =
    let (few, said) = says (length done + 1) fields here in
    let (s, is, f) = said in
    rw is (one-more so.names so.letters so.quints done s f so.spells few)

pub reading_of : (entries : List (List (List ℕ))) → table_fault entries ≡ None → (t : Named) × IsTableOf entries t
reading_of entries e =
    let (some, so) = kept_to_last refusal.Empty entry_fault Spelling nothing next-spelling entries e in (
      named_program (program_of so.quints (length so.names) (length so.letters)) so.names so.letters,
      record { spelled = so.spells; some = some; few = so.few; states = refl; symbols = refl },
    )

pub row-forms : (names : List (List ℕ)) (letters : List ℕ) (q : Quint) → list_all is_state_name names ≡ true
    → list_all is_symbol_byte letters ≡ true
    → IsInRange (length names) (length letters) q → HasForms (said_of names letters q)
row-forms names letters q f g h = record {
  state = all-at is_state_name names q.state _ f (slice_get-get_or names q.state [] h.state);
  read = all-at is_symbol_byte letters q.read _ g (slice_get-get_or letters q.read 0 h.read);
  write = all-at is_symbol_byte letters q.write _ g (slice_get-get_or letters q.write 0 h.write);
  next = all-at is_state_name names q.next _ f (slice_get-get_or names q.next [] h.next);
}

pub no_fault_of : (entries : List (List (List ℕ))) (t : Named) → IsTableOf entries t → table_fault entries ≡ None
no_fault_of entries t h =
    let s = h.spelled in
    let In : Quint → Type 0 = IsInRange (length t.names) (length t.letters) in
    none_faulty refusal.Empty entry_fault (λ (q : Quint). entry_of (said_of t.names t.letters q)) In MOST_ENTRIES
    (λ n q few within. no_fault n (said_of t.names t.letters q) few
    (row-forms t.names t.letters q s.names_form s.letters_form within))
    entries t.machine.quints s.rows h.some h.few s.in_range
