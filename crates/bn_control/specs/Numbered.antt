-- The moves of a control in numbers as the program stores them.
use Rattle.std.specs.Prelude.{◌≡◌, ℕ, ◌-◌, ◌≤◌, List, map, Some, slice_get, slice_index}
use Rattle.bn_rsm.specs.declared.rsm_move.RsmMove.{RsmMove}
use Rattle.bn_quad.specs.Quadruples.{Quadruples}
use Rattle.bn_network.specs.Cells.{IsLineOf}
use Rattle.bn_network.specs.Controls.{in_number, out_number}
use Rattle.bn_lists.specs.Lists.{Has}
use Rattle.bn_control.specs.declared.line.Line.{Line}
use Rattle.bn_control.specs.declared.line.Line.TheVariants.{Outside, Tape}
use Rattle.bn_control.specs.declared.named.NamedMove.{NamedMove}
use Rattle.bn_control.specs.declared.numbered.Move.{Move}
use Rattle.bn_control.specs.declared.name.StateName.{StateName}
use Rattle.bn_control.specs.Names.{state_of}
use Rattle.bn_control.specs.Commands.{line_of}
use Rattle.bn_control.specs.Ordered.{HasNumber}

-- the outside port, or a port of one of the three tapes, with a symbol of that tape
abbrev pub IsWithin : List ℕ → Line → Type 0
IsWithin zs Outside = Unit {0}
IsWithin zs (Tape t l) = (1 ≤ t) × (t ≤ 3) × IsLineOf (slice_index zs (t - 1)) l

-- the states of a move have numbers, and its ports are in range
pub record HasNumbers (ss : List StateName) (zs : List ℕ) (x : NamedMove) : Type 0 where
  pub state : HasNumber ss x.state
  pub line : IsWithin zs x.line
  pub next : HasNumber ss x.to.state
  pub out : IsWithin zs x.to.line

-- the move in numbers
pub record IsNumbered (m : Quadruples) (ss : List StateName) (x : NamedMove) (v : Move) : Type 0 where
  pub state : slice_get (map state_of ss) v.state ≡ Some (state_of x.state)
  pub line : v.line ≡ in_number m (line_of x.line)
  pub next : slice_get (map state_of ss) v.next ≡ Some (state_of x.to.state)
  pub out : v.out ≡ out_number m (line_of x.to.line)

-- the moves in numbers
pub record AreNumbered (m : Quadruples) (ss : List StateName) (xs : List NamedMove) (vs : List Move) : Type 0 where
  pub only : (v : Move) → Has vs v → (x : NamedMove) × Has xs x × IsNumbered m ss x v
  pub each : (x : NamedMove) → Has xs x → (v : Move) × Has vs v × IsNumbered m ss x v

-- a move in the form of a sequential machine
abbrev pub rsm_move : Move → RsmMove
rsm_move v = record { state = v.state; line = v.line; next = v.next; out = v.out }
