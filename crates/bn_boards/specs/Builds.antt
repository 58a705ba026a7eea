-- The build of a uniform machine of quadruples in a window (own to this project): its control's states in order, its
-- network, the network's circuit, and the layout by which the circuit is read.
use Rattle.std.specs.Prelude.{◌≡◌, ℕ, List, length}
use Rattle.bn_circuits.specs.Circuits.{Circuit}
use Rattle.bn_circuits.specs.Situations.{Situation}
use Rattle.bn_circuits.specs.declared.config.Config.{Config}
use Rattle.bn_circuits.specs.declared.place.Place.TheVariants.{Enter}
use Rattle.bn_machine.specs.Outcome.{Limits}
use Rattle.bn_quad.specs.Quadruples.{Configuration, Quadruples, IsQuadMachine, initial_of}
use Rattle.bn_quad.specs.Calls.{IsUniformMachine}
use Rattle.bn_network.specs.Controls.{ControlState, Begin, IsNumbering}
use Rattle.bn_network.specs.Moments.{HasLetters}
use Rattle.bn_network.specs.Networks.{IsNetwork, IsControlAt, ShowsTapes, elements_by}
use Rattle.bn_network.specs.Starts.{start_from}
use Rattle.bn_boards.specs.Boards.{IsBoard, StandsFor, board_start}
use Rattle.bn_boards.specs.Layouts.{Layout, IsLayout}

-- a uniform machine with a symbol on each tape, its control's states in order, and its network in these limits
pub record IsUniformNetwork (m : Quadruples) (l : Limits) (names : List ControlState) (k : Circuit) : Type 0 where
  pub machine : IsQuadMachine m
  pub uniform : IsUniformMachine m
  pub symbols : HasLetters m
  pub numbering : IsNumbering m names
  pub network : IsNetwork m l names k

-- a machine, the limits that give the numbers of its tapes' cells, and the parts of its build
pub record Build : Type 0 where
  pub machine : Quadruples
  pub limits : Limits
  pub names : List ControlState
  pub network : Circuit
  pub circuit : Circuit
  pub layout : Layout

-- the machine is uniform with a symbol on each tape, the network is its network in these limits, `circuit` is that
-- network's circuit, and the layout is the circuit's layout
pub record IsBuild (f : Build) : Type 0 where
  pub is_network : IsUniformNetwork f.machine f.limits f.names f.network
  pub is_board : IsBoard f.network f.circuit
  pub is_layout : IsLayout f.machine f.limits f.names f.layout

-- the number of elements of its circuit
abbrev pub build_elements : Build → ℕ
build_elements f = elements_by f.machine f.limits (length f.names)

-- the circuit at the start of c, with no step made
abbrev pub start_of : Build → Configuration ℕ → Config
start_of f c = board_start f.network.tables (start_from f.machine f.limits c)

-- The circuit at d, which represents the situation s, is at the start of c: c is in the initial state, with any
-- contents of its tapes and any positions of its heads within the window; the cells show its tapes, the control is in
-- its first state, the signal is at the control's port from outside, and no step has been made.
pub record IsStart (f : Build) (c : Configuration ℕ) (s : Situation) (d : Config) : Type 0 where
  pub initial : c.state ≡ initial_of f.machine.rules
  pub waits : IsControlAt f.names s.states Begin
  pub place : s.place ≡ Enter 0 0
  pub shows : ShowsTapes f.machine f.limits s.states c
  pub stands : StandsFor f.network s d
  pub fresh : d.steps ≡ 0
