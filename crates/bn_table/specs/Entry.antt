-- The five fields of a quintuple's entry (this project's own profile).
use Rattle.std.specs.Prelude.{◌≡◌, true, ℕ, List, [], ◌∷◌}
use Rattle.bn_csv.specs.Forms.{is_state_name, is_symbol_byte}
use Rattle.bn_machine.specs.declared.quint.Shift.{Shift}
use Rattle.bn_machine.specs.Shifts.{shift_text}

-- the content of an entry: a state's name, the letter read, the letter written, a shift, and the next state's name
pub record Said : Type 0 where
  pub state : List ℕ
  pub read : ℕ
  pub write : ℕ
  pub shift : Shift
  pub next : List ℕ

abbrev pub said : List ℕ → ℕ → ℕ → Shift → List ℕ → Said
said state read write shift next = record { state = state; read = read; write = write; shift = shift; next = next }

-- the entry with this content, in five fields
abbrev pub entry_of : Said → List (List ℕ)
entry_of s = s.state ∷ (s.read ∷ []) ∷ (s.write ∷ []) ∷ shift_text s.shift ∷ s.next ∷ []

-- the content of the entry has the forms that tables require
pub record HasForms (s : Said) : Type 0 where
  pub state : is_state_name s.state ≡ true
  pub read : is_symbol_byte s.read ≡ true
  pub write : is_symbol_byte s.write ≡ true
  pub next : is_state_name s.next ≡ true
