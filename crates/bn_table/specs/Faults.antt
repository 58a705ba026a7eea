-- The first fault of a table's entries. Entries and fields are counted from 1.
use Rattle.std.specs.Prelude.{ℕ, not, if◌then◌else◌, List, [], ◌∷◌, Option, Some, None}
use Rattle.bn_csv.specs.Faults.{first_fault, limited}
use Rattle.bn_csv.specs.Forms.{is_letter, is_state_name}
use Rattle.bn_machine.specs.Shifts.{is_shift}
use Rattle.bn_table.specs.declared.entry.TheConstants.{MOST_ENTRIES}
use Rattle.bn_table.specs.declared.refusal.TableRefusal.{TableRefusal}
use Rattle.bn_table.specs.declared.refusal.TableRefusal.TheVariants as refusal

-- the first field, in order, that does not have its form: a state's name, two letters, a shift, a state's name
abbrev pub field_fault : ℕ → List ℕ → List ℕ → List ℕ → List ℕ → List ℕ → Option TableRefusal
field_fault entry state read write shift next =
    if not (is_state_name state) then Some (refusal.Name entry 1)
    else if not (is_letter read) then Some (refusal.Symbol entry 2)
    else if not (is_letter write) then Some (refusal.Symbol entry 3)
    else if not (is_shift shift) then Some (refusal.Shift entry)
    else if not (is_state_name next) then Some (refusal.Name entry 5)
    else None

-- the fault of an entry's fields: there are not five, or one does not have its form
abbrev pub form_fault : ℕ → List (List ℕ) → Option TableRefusal
form_fault entry (state ∷ read ∷ write ∷ shift ∷ next ∷ []) = field_fault entry state read write shift next
form_fault entry fields = Some (refusal.FieldCount entry)

-- the first fault of the entry with this number: there are too many entries, or its fields have a fault
abbrev pub entry_fault : ℕ → List (List ℕ) → Option TableRefusal
entry_fault entry fields = limited MOST_ENTRIES refusal.TooMany form_fault entry fields

-- the fault of a table's entries: the table is empty, or the first fault of the first faulty entry
abbrev pub table_fault : List (List (List ℕ)) → Option TableRefusal
table_fault entries = first_fault refusal.Empty entry_fault entries
