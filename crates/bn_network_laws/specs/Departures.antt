-- A shift that would move the head out of its window: the number of moves until the signal leaves by a loose port.
use Rattle.std.specs.Prelude.{◌≡◌, ℕ, ◌+◌, ◌*◌, ◌≤◌, Bool, List}
use Rattle.bn_circuits.specs.Circuits.{Circuit}
use Rattle.bn_circuits.specs.declared.place.Place.TheVariants.{Enter}
use Rattle.bn_machine.specs.Tape.{Tape, moved}
use Rattle.bn_machine.specs.Window.{IsBeyond}
use Rattle.bn_machine.specs.Outcome.{Limits}
use Rattle.bn_machine.specs.declared.quint.Side.{Side}
use Rattle.bn_machine.specs.declared.quint.Side.TheVariants as side
use Rattle.bn_quad.specs.Quadruples.{Quadruples}
use Rattle.bn_circuits.specs.Situations.{Situation}
use Rattle.bn_rsm.specs.RunCosts.{run_cost}
use Rattle.bn_network.specs.Cells.{line_number}
use Rattle.bn_network.specs.Controls.{ControlState, symbol_count, shift_line}
use Rattle.bn_network.specs.Networks.{IsNetwork, IsTape, first_cell, left_of}
use Rattle.bn_network_laws.specs.Commands.{IsCalm, ShowsAt, Parted, head_of, right_of, tape_elements, way_to}

-- the number of moves to the loose port at a side
abbrev pub leaving_moves : Limits → ℕ → Tape → Side → ℕ
leaving_moves l t tape side.Left = 1
leaving_moves l t tape side.Right = head_of l t tape + 1

-- The signal leaves by the loose port at this side in that many moves, and the next step, for which there is no move,
-- costs nothing.
pub record Departs (m : Quadruples) (l : Limits) (k : Circuit) (test : Situation
    → Bool) (t : ℕ) (s : Situation) (tape : Tape) (to : Side) : Type 0 where
  pub parted : Parted m l k test t s tape to
  pub moves : parted.moves ≡ leaving_moves l t tape to
  pub whole : run_cost k (parted.moves + 1) s ≤ 8 * tape_elements m l t

abbrev pub Departures : Type 0
Departures =
    (m : Quadruples) (l : Limits) (names : List ControlState) (k : Circuit) (test : Situation
    → Bool) (t : ℕ) (s : Situation) (tape : Tape) → IsNetwork m l names k → IsTape t → IsCalm m l t test
    → ShowsAt m l t s.states tape
    → (to : Side) → IsBeyond (left_of l t) (right_of l t) to (moved tape.head (way_to to))
    → s.place ≡ Enter (first_cell l t) (line_number (symbol_count m t) (shift_line to)) → Departs m l k test t s tape to
