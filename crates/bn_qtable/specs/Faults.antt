-- The first fault of a table's entries. Entries and fields are counted from 1.
use Rattle.std.specs.Prelude.{ℕ, Bool, ◌||◌, not, if◌then◌else◌, List, [], ◌∷◌, Option, Some, None, bytes_eq}
use Rattle.bn_csv.specs.Faults.{first_fault, limited}
use Rattle.bn_csv.specs.Forms.{is_state_name, is_symbol}
use Rattle.bn_qtable.specs.Entry.{slash}
use Rattle.bn_machine.specs.Shifts.{is_shift}
use Rattle.bn_qtable.specs.declared.entry.TheConstants.{MOST_ENTRIES}
use Rattle.bn_qtable.specs.declared.refusal.QuadTableRefusal.{QuadTableRefusal}
use Rattle.bn_qtable.specs.declared.refusal.QuadTableRefusal.TheVariants as refusal

-- a read is `/` or a symbol
abbrev pub is_read : List ℕ → Bool
is_read read = bytes_eq read slash || is_symbol read

-- an action is a shift if the read of its tape is `/`, otherwise a symbol
abbrev pub is_act : List ℕ → List ℕ → Bool
is_act read act = if bytes_eq read slash then is_shift act else is_symbol act

-- the fault of an action that is not
abbrev pub act_fault : ℕ → ℕ → List ℕ → QuadTableRefusal
act_fault entry field read = if bytes_eq read slash then refusal.Shift entry field else refusal.Symbol entry field

-- the first field, in order, that does not have its form: a state's name, three reads, three actions, a state's name
abbrev pub quadruple_field_fault : ℕ → List ℕ → List ℕ → List ℕ → List ℕ → List ℕ → List ℕ → List ℕ → List ℕ
    → Option QuadTableRefusal
quadruple_field_fault entry state read1 read2 read3 act1 act2 act3 next =
    if not (is_state_name state) then Some (refusal.Name entry 1)
    else if not (is_read read1) then Some (refusal.Symbol entry 2)
    else if not (is_read read2) then Some (refusal.Symbol entry 3)
    else if not (is_read read3) then Some (refusal.Symbol entry 4)
    else if not (is_act read1 act1) then Some (act_fault entry 5 read1)
    else if not (is_act read2 act2) then Some (act_fault entry 6 read2)
    else if not (is_act read3 act3) then Some (act_fault entry 7 read3)
    else if not (is_state_name next) then Some (refusal.Name entry 8)
    else None

-- the fault of an entry's fields: there are not eight, or one does not have its form
abbrev pub quadruple_form_fault : ℕ → List (List ℕ) → Option QuadTableRefusal
quadruple_form_fault entry (state ∷ read1 ∷ read2 ∷ read3 ∷ act1 ∷ act2 ∷ act3 ∷ next
    ∷ []) = quadruple_field_fault entry state read1 read2 read3 act1 act2 act3 next
quadruple_form_fault entry fields = Some (refusal.FieldCount entry)

-- the first fault of the entry with this number: there are too many entries, or its fields have a fault
abbrev pub quadruple_entry_fault : ℕ → List (List ℕ) → Option QuadTableRefusal
quadruple_entry_fault entry fields = limited MOST_ENTRIES refusal.TooMany quadruple_form_fault entry fields

-- the fault of a table's entries: the table is empty, or the first fault of the first faulty entry
abbrev pub quadruple_table_fault : List (List (List ℕ)) → Option QuadTableRefusal
quadruple_table_fault entries = first_fault refusal.Empty quadruple_entry_fault entries
