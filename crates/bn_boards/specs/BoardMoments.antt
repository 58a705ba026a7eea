-- The moments of a circuit in terms of the circuit alone: by the port that the signal enters and by the control's
-- marked column.
use Rattle.std.specs.Prelude.{◌≡◌, ◌≢◌, ℕ, ◌<◌, List, length, Some, slice_get}
use Rattle.bn_element.specs.Tables.{Table}
use Rattle.bn_circuits.specs.Circuits.{Circuit}
use Rattle.bn_circuits.specs.declared.line.Line.{Line}
use Rattle.bn_circuits.specs.declared.place.Place.TheVariants.{Enter, Left}
use Rattle.bn_circuits.specs.declared.config.Config.{Config}
use Rattle.bn_element.specs.Rotary.{horizontal, east, west}
use Rattle.bn_machine.specs.Outcome.{Limits}
use Rattle.bn_quad.specs.Quadruples.{Quadruples, final_state_of}
use Rattle.bn_realise.specs.Banks.{bottom_at, bank_input_line, bank_output_line}
use Rattle.bn_network.specs.Controls.{ControlState, ControlMove, Outside, IsEntry, control_lines, out_number}
use Rattle.bn_network.specs.Networks.{IsNetWire}
use Rattle.bn_circuits.specs.Circuits.{line_at}
use Rattle.bn_boards.specs.Boards.{base}
use Rattle.bn_boards.specs.Flats.{Flat, machine_of}

-- The circuit is at the moment of the final state if the signal has left by the control's port to the outside. It is
-- at the moment of another state if the signal enters the port of that state's first command at the first cell of the
-- tape, and the control's column of the state that waits for the reply is marked.
pub data IsBoardMoment (m : Quadruples) (l : Limits) (names : List ControlState) (n : Circuit) (d : Config)
    (a : ℕ) : Type 0 where
  left_by_end : a ≡ final_state_of m.rules → (control : Table) → slice_get n.tables 0 ≡ Some control
      → d.place ≡ Left (bank_output_line 0 control (out_number m Outside)).element east → IsBoardMoment m l names n d a
  enters_first : a ≢ final_state_of m.rules → (first : ControlMove) → IsEntry m a first → (into : Line)
      → IsNetWire m l (line_at 0 (out_number m first.1)) into
      → d.place ≡ Enter (bank_input_line (base n.tables into.element) into.line).element west
      → (q : ℕ) → slice_get names q ≡ Some first.0
      → slice_get d.states (bottom_at 0 (control_lines m) q) ≡ Some horizontal → IsBoardMoment m l names n d a

-- at most one column of the control is marked
abbrev pub HasOneState : Flat → Config → Type 0
HasOneState f d =
    (i j : ℕ) → i < length f.names → j < length f.names
    → slice_get d.states (bottom_at 0 (control_lines (machine_of f)) i) ≡ Some horizontal
    → slice_get d.states (bottom_at 0 (control_lines (machine_of f)) j) ≡ Some horizontal → i ≡ j
