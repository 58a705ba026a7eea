-- The text of a table.
use Rattle.std.proofs.Common.{◌≡◌, ◌<◌, ◌≤◌, ◌+◌, ◌++◌, ◌∙◌, ℕ, List, length, take, get_or, true, refl, sym, ap, subst}
use Rattle.std.proofs.Common.{All}
use Rattle.std.specs.List.{list_all}
use Rattle.bn_csv.specs.Entries.{entries_of}
use Rattle.bn_csv.specs.Forms.{is_state_name, is_symbol_byte}
use Rattle.bn_csv.proofs.FormsLemmas.{plain-state-name, plain-symbol-byte}
use Rattle.bn_csv.specs.Lines.{is_plain, is_plain_entry, line_of, lines_of}
use Rattle.bn_csv.proofs.LinesLemmas.{all_plain, entries_of-lines_of, lines_of-all, lines_of-more}
use Rattle.bn_machine.specs.Machine.{IsInRange}
use Rattle.bn_machine.specs.declared.quint.Quint.{Quint}
use Rattle.bn_machine.specs.declared.quint.Shift.{Shift}
use Rattle.bn_machine.specs.declared.quint.Shift.TheVariants.{Left, Stay, Right}
use Rattle.bn_table.specs.Entry.{Said, HasForms, entry_of}
use Rattle.bn_machine.specs.Shifts.{shift_text}
use Rattle.bn_table.specs.Reading.{Reads}
use Rattle.bn_table.specs.Rows.{IsTable, IsTableOf, Named, rows_by, rows_of}
use Rattle.bn_table.proofs.SaidLemmas.{said_of}
use Rattle.bn_table.proofs.ReadingLaws.{row-forms}

pub plain_shift : (s : Shift) → is_plain (shift_text s) ≡ true
plain_shift Left = refl
plain_shift Stay = refl
plain_shift Right = refl

-- an entry in the right forms needs no quotes
pub plain-said : (s : Said) → HasForms s → is_plain_entry (entry_of s) ≡ true
plain-said s h =
    rw (
      plain-state-name s.state h.state,
      plain-symbol-byte s.read h.read,
      plain-symbol-byte s.write h.write,
      plain_shift s.shift,
      plain-state-name s.next h.next,
    ) refl

plain-rows : (names : List (List ℕ)) (letters : List ℕ) (quints : List Quint) → list_all is_state_name names ≡ true
    → list_all is_symbol_byte letters ≡ true
    → All (IsInRange (length names) (length letters)) quints → list_all is_plain_entry (rows_by names letters quints)
    ≡ true
plain-rows names letters quints f g h =
    all_plain (λ (q : Quint). entry_of (said_of names letters q)) (IsInRange (length names) (length letters))
    (λ q within. plain-said (said_of names letters q) (row-forms names letters q f g within)) quints h

-- the lines of a table's entries are read as the table
pub reads-back : (t : Named) (text : List ℕ) → IsTable t → text ≡ lines_of (rows_of t) → Reads text t
reads-back t text h e =
    let s = h.spelled in
    let back : entries_of text ≡ rows_of t = ap entries_of e ∙ entries_of-lines_of (rows_of t)
    (plain-rows t.names t.letters t.machine.quints s.names_form s.letters_form s.in_range) in
    let P : List (List (List ℕ)) → Type 0 = λ entries. IsTableOf entries t in
    subst P (sym back) h

-- the line of one more quintuple, and the lines of all
pub line-more : (names : List (List ℕ)) (letters : List ℕ) (quints : List Quint) (i : ℕ) (q : Quint)
    (before after : List ℕ) → i < length quints → before ≡ lines_of (rows_by names letters (take i quints))
    → after ≡ before ++ line_of (entry_of (said_of names letters (get_or quints i q)))
    → after ≡ lines_of (rows_by names letters (take (i + 1) quints))
line-more names letters = lines_of-more (λ (q : Quint). entry_of (said_of names letters q))

pub lines-all : (names : List (List ℕ)) (letters : List ℕ) (quints : List Quint) (i : ℕ) (text : List ℕ)
    → length quints ≤ i → text ≡ lines_of (rows_by names letters (take i quints))
    → text ≡ lines_of (rows_by names letters quints)
lines-all names letters = lines_of-all (λ (q : Quint). entry_of (said_of names letters q))
