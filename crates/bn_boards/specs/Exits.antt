-- The port by which the signal leaves the circuit of any uniform machine, and the tapes that its cells then show (own
-- to this project).
use Rattle.std.specs.Prelude.{◌≡◌, ℕ, ◌+◌, ◌-◌, List, Some, slice_get}
use Rattle.bn_circuits.specs.declared.place.Place.{Place}
use Rattle.bn_circuits.specs.declared.place.Place.TheVariants.{Left}
use Rattle.bn_element.specs.Rotary.{west}
use Rattle.bn_machine.specs.Tape.{scanned}
use Rattle.bn_machine.specs.declared.quint.Side.{Side}
use Rattle.bn_quad.specs.Quadruples.{Configuration, Follows}
use Rattle.bn_bennett_laws.specs.Steps.{Exit, Finished, Stopped, Leaving}
use Rattle.bn_realise.specs.Banks.{column_at}
use Rattle.bn_network.specs.Controls.{Reads, IsNotLeft, lines_before}
use Rattle.bn_network_laws.specs.Ends.{tape_of, left_at, taken_from}
use Rattle.bn_network_laws.specs.Stops.{IsStuckAtRead, symbols_before, taken_to}
use Rattle.bn_boards.specs.declared.exit.Exit.TheVariants as exit
use Rattle.bn_boards.specs.Layouts.{IsNamedExit, lines_at, spelled_by, spelled_config}
use Rattle.bn_boards.specs.Builds.{Build}

-- the port by which the signal leaves at the reply z of tape t, for which the control waits in state a of the machine
-- after it has read these symbols
pub record IsStopLine (f : Build) (p : Place) (a t z : ℕ) (symbols : List ℕ) : Type 0 where
  pub column : ℕ
  pub named : slice_get f.names column ≡ Some (Reads a symbols)
  pub line : p ≡ Left (column_at 0 (lines_at f.layout) column + (lines_before f.layout.symbols (t - 1) + z)) west

-- The port by which the signal leaves if the machine's run ends in this way at c, and the tapes that the cells then
-- show. `by_end`: by the end port, with the tapes of c. `by_read`: at the read at which the machine is stuck, with
-- its tapes without the symbols that were read. `by_wait`: if no quadruple leaves the state, at the reply to the
-- control's read of tape 1, with the tapes without the scanned symbol of tape 1. `by_window`: by the port at a tape's
-- end, with the tapes as they are within the step that would leave.
pub data BoardLeaves (f : Build) (p : Place) (states : List ℕ) (c : Configuration ℕ) (e : Exit) : Type 0 where
  by_end : e ≡ Finished → IsNamedExit f.layout p exit.End → spelled_by f.layout states ≡ spelled_config f.limits c
      → BoardLeaves f p states c e
  by_read : (t : ℕ) (stop : IsStuckAtRead f.machine c t) → e ≡ Stopped
      → IsStopLine f p c.state t (scanned (tape_of c t)) (symbols_before stop.rule t)
      → spelled_by f.layout states ≡ spelled_config f.limits (taken_to stop.rule c t) → BoardLeaves f p states c e
  by_wait : IsNotLeft f.machine c.state → e ≡ Stopped
      → IsNamedExit f.layout p (exit.Stuck c.state (scanned c.one))
      → spelled_by f.layout states ≡ spelled_config f.limits (taken_from c 1) → BoardLeaves f p states c e
  by_window : (t : ℕ) (side : Side) (d : Configuration ℕ) (step : Follows f.machine.rules c d) → e ≡ Leaving t side
      → IsNamedExit f.layout p (exit.Window t side)
      → spelled_by f.layout states ≡ spelled_config f.limits (left_at t step.leads.rule c) → BoardLeaves f p states c e
