-- The first fault of the entries of a table of moves. Entries and fields are counted from 1.
use Rattle.std.specs.Prelude.{ℕ, Bool, false, ◌==◌, ◌&&◌, not, nat_le, nat_lt, if◌then◌else◌, List, [], ◌∷◌, length}
use Rattle.std.specs.Prelude.{Option, Some, None, Result, Ok, Err}
use Rattle.bn_base.specs.Number.{read_number}
use Rattle.bn_base.specs.declared.numbers.Digits.{Digits}
use Rattle.bn_csv.specs.Faults.{first_fault, limited}
use Rattle.bn_rsm.specs.declared.entry.TheConstants.{MOST_ENTRIES}
use Rattle.bn_base.specs.declared.limits.TheConstants.{MOST_COUNT}
use Rattle.bn_rsm.specs.declared.table_refusal.RsmTableRefusal.{RsmTableRefusal}
use Rattle.bn_rsm.specs.declared.table_refusal.RsmTableRefusal.TheVariants as refusal

-- the parse returned a number from 1 to `MOST_COUNT` and ended at this place
abbrev pub is_count : ℕ → Result (ℕ × ℕ) Digits → Bool
is_count end (Ok (number, behind)) = behind == end && nat_lt 0 number && nat_le number MOST_COUNT
is_count end (Err fault) = false

-- the whole field is such a number
abbrev pub is_number : List ℕ → Bool
is_number field = is_count (length field) (read_number field 0)

-- the refusal of the first field, in order, that is not such a number
abbrev pub move_field_fault : ℕ → List ℕ → List ℕ → List ℕ → List ℕ → Option RsmTableRefusal
move_field_fault entry state line next out =
    if not (is_number state) then Some (refusal.Number entry 1)
    else if not (is_number line) then Some (refusal.Number entry 2)
    else if not (is_number next) then Some (refusal.Number entry 3)
    else if not (is_number out) then Some (refusal.Number entry 4)
    else None

-- the fault of an entry's fields: there are not four of them, or one is not a number
abbrev pub move_form_fault : ℕ → List (List ℕ) → Option RsmTableRefusal
move_form_fault entry (state ∷ line ∷ next ∷ out ∷ []) = move_field_fault entry state line next out
move_form_fault entry fields = Some (refusal.FieldCount entry)

-- the first fault of the entry with this number: it comes after `MOST_ENTRIES` others, or its fields have a fault
abbrev pub move_entry_fault : ℕ → List (List ℕ) → Option RsmTableRefusal
move_entry_fault entry fields = limited MOST_ENTRIES refusal.TooMany move_form_fault entry fields

-- the fault of a table's entries: there is no entry, or the first faulty entry's first fault
abbrev pub move_table_fault : List (List (List ℕ)) → Option RsmTableRefusal
move_table_fault entries = first_fault refusal.Empty move_entry_fault entries
