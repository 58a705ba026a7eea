-- The first commands of a machine's states as the program stores them.
use Rattle.std.specs.Prelude.{◌≡◌, ℕ, ◌==◌, List, length, Some, slice_get, if◌then◌else◌}
use Rattle.bn_quad.specs.Quadruples.{Quadruples}
use Rattle.bn_network.specs.Controls.{IsEntry}
use Rattle.bn_network.specs.declared.cell_line.CellLine.TheVariants as line
use Rattle.bn_control.specs.declared.name.StateName.TheVariants.{End, Reads}
use Rattle.bn_control.specs.declared.name.Symbols.TheVariants.{Empty}
use Rattle.bn_control.specs.declared.line.Line.TheVariants.{Outside, Tape}
use Rattle.bn_control.specs.declared.line.Sending.{Sending}
use Rattle.bn_control.specs.Names.{IsProper}
use Rattle.bn_control.specs.Commands.{sending_of}

-- the first command in a state that no quadruple leaves
abbrev pub waiting : ℕ → ℕ → Sending
waiting last a =
    if a == last then (record { state = End; line = Outside })
    else (record { state = Reads a 0 Empty; line = Tape 1 line.Read })

-- this is the first command in state a
pub record IsFirstSent (m : Quadruples) (a : ℕ) (s : Sending) : Type 0 where
  pub entry : IsEntry m a (sending_of s)
  pub proper : IsProper s.state

-- the first commands of the machine's states, one for each state
pub record AreEntries (m : Quadruples) (es : List Sending) : Type 0 where
  pub counted : length es ≡ m.states
  pub each : (a : ℕ) (s : Sending) → slice_get es a ≡ Some s → IsFirstSent m a s
