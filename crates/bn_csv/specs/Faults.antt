-- The first fault of a table's entries, whatever the faults are. Entries are counted from 1.
use Rattle.std.specs.Prelude.{ℕ, ◌+◌, nat_lt, if◌then◌else◌, List, [], ◌∷◌, Option, Some, None, Result, Ok, Err}

-- the first of two faults if it is present, otherwise the second
abbrev pub else_fault : {F : Type 0} → Option F → Option F → Option F
else_fault None later = later
else_fault (Some fault) later = Some fault

-- the fault of the entry with this number: there are too many entries, or its form has a fault
abbrev pub limited : {F : Type 0} → ℕ → (ℕ → F) → (ℕ → List (List ℕ) → Option F) → ℕ → List (List ℕ) → Option F
limited most too_many form_fault entry fields =
    if nat_lt most entry then Some (too_many entry) else form_fault entry fields

-- the first fault of these entries, the first of which has this number
unfoldable pub fault_from : {F : Type 0} → (ℕ → List (List ℕ) → Option F) → ℕ → List (List (List ℕ)) → Option F
fault_from entry_fault entry [] = None
fault_from entry_fault entry (fields ∷ rest) =
    else_fault (entry_fault entry fields) (fault_from entry_fault (entry + 1) rest)

-- the fault of a table's entries: the table is empty, or the first fault of the first faulty entry
unfoldable pub first_fault : {F : Type 0} → F → (ℕ → List (List ℕ) → Option F) → List (List (List ℕ)) → Option F
first_fault empty entry_fault [] = Some empty
first_fault empty entry_fault (fields ∷ rest) = fault_from entry_fault 1 (fields ∷ rest)

-- the error of a result, if it has one
abbrev pub err_of : {T E : Type 0} → Result T E → Option E
err_of (Ok x) = None
err_of (Err e) = Some e
