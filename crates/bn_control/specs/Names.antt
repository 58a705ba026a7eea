-- The names of a control's states in the program, and the states that they denote.
use Rattle.std.specs.Prelude.{◌≡◌, ℕ, ◌≤◌, List, [], ◌∷◌, length, Option, Some, None}
use Rattle.bn_network.specs.Controls as control
use Rattle.bn_control.specs.declared.name.Symbols.{Symbols}
use Rattle.bn_control.specs.declared.name.Symbols.TheVariants.{Empty, Leading}
use Rattle.bn_control.specs.declared.name.StateName.{StateName}
use Rattle.bn_control.specs.declared.name.StateName.TheVariants.{Begin, End, Reads, Shifts, Writes}

-- the symbols as a list
abbrev pub listed : Symbols → List ℕ
listed Empty = []
listed (Leading a None) = a ∷ []
listed (Leading a (Some b)) = a ∷ b ∷ []

-- those of the two symbols that exist
abbrev pub symbols_of : Option ℕ → Option ℕ → Symbols
symbols_of (Some a) b = Leading a b
symbols_of None (Some b) = Leading b None
symbols_of None None = Empty

-- the control's state of this name
abbrev pub state_of : StateName → control.ControlState
state_of Begin = control.Begin
state_of End = control.End
state_of (Reads a n s) = control.Reads a (listed s)
state_of (Shifts n t) = control.Shifts n t
state_of (Writes a t u) = control.Writes a t.0 (listed u)

-- the count of symbols read is the length of their list, and the tape of a write is at most 3
abbrev pub IsProper : StateName → Type 0
IsProper (Reads a n s) = n ≡ length (listed s)
IsProper (Writes a t u) = t.0 ≤ 3
IsProper _ = Unit {0}
