-- The moves of a control by names as the program stores them.
use Rattle.std.specs.Prelude.{◌≡◌, List}
use Rattle.bn_quad.specs.Quadruples.{Quadruples}
use Rattle.bn_network.specs.Controls.{ControlState, ControlLine, ControlMove, ControlGoes}
use Rattle.bn_lists.specs.Lists.{Has}
use Rattle.bn_control.specs.declared.named.NamedMove.{NamedMove}
use Rattle.bn_control.specs.Names.{state_of, IsProper}
use Rattle.bn_control.specs.Commands.{line_of, sending_of}

-- this is a move of the control
pub record IsGoing (m : Quadruples) (x : NamedMove) : Type 0 where
  pub goes : ControlGoes m (state_of x.state) (line_of x.line) (sending_of x.to)
  pub from : IsProper x.state
  pub to : IsProper x.to.state

-- this move is among them
pub record IsKeptAmong (xs : List NamedMove) (q : ControlState) (i : ControlLine) (k : ControlMove) : Type 0 where
  pub move : NamedMove
  pub member : Has xs move
  pub state : state_of move.state ≡ q
  pub line : line_of move.line ≡ i
  pub to : sending_of move.to ≡ k

-- all moves of the control, and no others
pub record AreMoves (m : Quadruples) (xs : List NamedMove) : Type 0 where
  pub only : (x : NamedMove) → Has xs x → IsGoing m x
  pub each : (q : ControlState) (i : ControlLine) (k : ControlMove) → ControlGoes m q i k → IsKeptAmong xs q i k
