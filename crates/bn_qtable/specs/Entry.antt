-- The eight fields of a quadruple's entry (this project's own profile).
use Rattle.std.specs.Prelude.{◌≡◌, ℕ, true, List, [], ◌∷◌, ⊤}
use Rattle.bn_csv.specs.Forms.{is_state_name, is_symbol}
use Rattle.bn_machine.specs.declared.quint.Shift.{Shift}
use Rattle.bn_machine.specs.Shifts.{shift_text}

-- the text of a tape that is not read, `/`
abbrev pub slash : List ℕ
slash = 47 ∷ []

-- the part of an entry that belongs to one tape: the symbol read and the symbol written, or a shift
pub data Says : Type 0 where
  Rewrites : List ℕ → List ℕ → Says
  Moves : Shift → Says

-- the two fields of this part: the read and the action
abbrev pub read_field : Says → List ℕ
read_field (Rewrites read written) = read
read_field (Moves s) = slash

abbrev pub act_field : Says → List ℕ
act_field (Rewrites read written) = written
act_field (Moves s) = shift_text s

-- the content of an entry: a state's name, the parts for the three tapes, and the next state's name
pub record SaidQuadruple : Type 0 where
  pub state : List ℕ
  pub one : Says
  pub two : Says
  pub three : Says
  pub next : List ℕ

-- the entry with this content: a state, three reads, three actions, and the next state
abbrev pub quadruple_entry : SaidQuadruple → List (List ℕ)
quadruple_entry s =
    s.state ∷ read_field s.one ∷ read_field s.two ∷ read_field s.three
    ∷ act_field s.one ∷ act_field s.two ∷ act_field s.three ∷ s.next ∷ []

-- symbols and names have their forms
abbrev pub SaysHasForms : Says → Type 0
SaysHasForms (Rewrites read written) = (is_symbol read ≡ true) × (is_symbol written ≡ true)
SaysHasForms (Moves s) = ⊤

pub record HasForms (s : SaidQuadruple) : Type 0 where
  pub state : is_state_name s.state ≡ true
  pub one : SaysHasForms s.one
  pub two : SaysHasForms s.two
  pub three : SaysHasForms s.three
  pub next : is_state_name s.next ≡ true
