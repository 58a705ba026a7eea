-- A view of a circuit: every layer of its configuration, and of the last moment that it reached (Bennett 1973 for the
-- machines; circuit, moments and view are this project's own definitions).
use Rattle.std.specs.Prelude.{◌≡◌, ℕ, suc, pos, List, Some}
use Rattle.bn_circuits.specs.Circuits.{Circuit}
use Rattle.bn_circuits.specs.Stepping.{run}
use Rattle.bn_circuits.specs.declared.config.Config.{Config}
use Rattle.bn_circuits.specs.RotaryNets.{rotary_circuit}
use Rattle.bn_machine.specs.Machine.{Program, Moment, GoesBy}
use Rattle.bn_machine.specs.Outcome.{Limits}
use Rattle.bn_machine.specs.Run.{After}
use Rattle.bn_machine.specs.Window.{anywhere}
use Rattle.bn_quad.specs.Quadruples.{Configuration, IsQuadMachine, Quadruples, initial_of}
use Rattle.bn_bennett_laws.specs.Renamed.{in_state}
use Rattle.bn_bennett_laws.specs.Stages.{Stands}
use Rattle.bn_bennett.specs.Translation.{Translation, name_of}
use Rattle.bn_bennett.specs.Meaning.{stage_by, machine_state_by}
use Rattle.bn_bennett.specs.declared.translated.MachineState.{MachineState}
use Rattle.bn_bennett.specs.declared.translated.MachineState.TheVariants.{AtState, Within}
use Rattle.bn_network.specs.Controls.{ControlState}
use Rattle.bn_boards.specs.Layouts.{IsExit, IsLayout, Layout, moment_at, spelled_by, spelled_config}
use Rattle.bn_boards.specs.BoardMoments.{IsBoardMoment}
use Rattle.bn_boards.specs.Flats.{Flat, IsAccepted, IsFlatOf, flat_start, machine_of}
use Rattle.bn_board.specs.Flattened.{Flattened, origin}
use Rattle.bn_view.specs.declared.layers.BoardLayers.{BoardLayers}
use Rattle.bn_view.specs.declared.layers.Layers.{Layers}
use Rattle.bn_view.specs.declared.viewer.LastMoment.{LastMoment}
use Rattle.bn_view.specs.Shown.{IsShown}
use Rattle.bn_view.specs.Modules.{IsModuleAt}

-- ---- the boards of which there are views

-- The circuit is that of f, which a machine, a word and limits determine. The translation is that of the machine, and
-- the circuit was built at the start of f.
pub record IsBoardFor (p : Program) (word : List ℕ) (l : Limits) (f : Flat) (t : Translation)
    (b : Flattened) : Type 0 where
  pub flat : IsFlatOf p word l f
  pub accepted : IsAccepted p word l f
  pub translation : f.translation ≡ t
  pub circuit : f.circuit ≡ rotary_circuit b.net
  pub layout : f.layout ≡ b.layout
  pub start : origin b ≡ flat_start f

-- the circuit is that of this translation
abbrev pub IsBoardOf : Translation → Flattened → Type 0
IsBoardOf t b = (p : Program) × (word : List ℕ) × (l : Limits) × (f : Flat) × IsBoardFor p word l f t b

-- the layout is that of a machine's circuit in some limits
pub record IsLaidOut (m : Quadruples) (b : Layout) : Type 0 where
  pub machine : IsQuadMachine m
  pub limits : Limits
  pub names : List ControlState
  pub layout : IsLayout m limits names b

-- ---- moments of a run

-- after u steps from c0 the layout finds the moment of a
abbrev pub Finds : Layout → Circuit → Config → ℕ → ℕ → Type 0
Finds b k c0 u a = moment_at b (run k c0 u) ≡ Some a

-- after u steps from its start the circuit is at the moment of a
abbrev pub Comes : Flat → ℕ → ℕ → Type 0
Comes f u a = IsBoardMoment (machine_of f) f.limits f.names f.network (run f.circuit (flat_start f) u) a

-- ---- the view

-- What is shown of a circuit with this layout whose run from its start has reached d, where `at u a` states that after
-- u steps it is at the moment of a, and this is the initial state: the place of the signal; and the state of the last
-- moment reached, or of the start if there is none, and what the cells show then.
pub record IsViewBy (b : Layout) (k : Circuit) (c0 : Config) (at : ℕ → ℕ → Type 0) (initial : ℕ) (d : Config)
    (v : BoardLayers) : Type 0 where
  pub place : v.place ≡ d.place
  pub steps : v.steps ≡ d.steps
  pub located : IsModuleAt b d.place v.module
  pub step : ℕ
  pub shown : IsShown at initial d.steps step v.state
  pub tapes : v.tapes ≡ spelled_by b (run k c0 step).states

-- the same by the moments that the layout finds
abbrev pub IsFoundView : Layout → Circuit → Config → ℕ → Config → BoardLayers → Type 0
IsFoundView b k c0 = IsViewBy b k c0 (Finds b k c0)

-- the same of a circuit, at its present configuration
abbrev pub IsBoardView : Flattened → ℕ → BoardLayers → Type 0
IsBoardView b initial = IsFoundView b.layout (rotary_circuit b.net) (origin b) initial b.config

-- what the layers say about the machine of quadruples
abbrev pub board_layers : Layers → BoardLayers
board_layers v = record { place = v.place; steps = v.steps; «module» = v.module; state = v.state; tapes = v.tapes }

-- The contents of a view if the circuit of f has reached d: the place of the signal, the state of the last moment and
-- what the cells show then; the exit by which the signal has left; and what the state says about the one-tape machine.
-- The machine's step is the position of the head of the history.
pub record IsViewOf (f : Flat) (d : Config) (v : Layers) : Type 0 where
  pub board : IsViewBy f.layout f.circuit (flat_start f) (Comes f) (initial_of (machine_of f).rules) d (board_layers v)
  pub exit : IsExit f.layout d.place v.exit
  pub stage : v.stage ≡ stage_by (name_of f.translation v.state)
  pub machine : v.machine ≡ machine_state_by f.translation.final_state (name_of f.translation v.state)
  pub machine_step : v.tapes.two.head ≡ Some (pos v.machine_step)

-- the state that is shown of a circuit with this initial state, and what its cells showed then
pub record IsLastMoment (b : Flattened) (initial : ℕ) (m : LastMoment) : Type 0 where
  pub step : ℕ
  pub shown : IsShown (Finds b.layout (rotary_circuit b.net) (origin b)) initial b.config.steps step m.state
  pub tapes : m.tapes ≡ spelled_by b.layout (run (rotary_circuit b.net) (origin b) step).states

-- the view of a circuit and a translation, with the moments that the circuit's layout finds
pub record IsView (t : Translation) (b : Flattened) (v : Layers) : Type 0 where
  pub board : IsBoardView b (initial_of t.machine.rules) (board_layers v)
  pub exit : IsExit b.layout b.config.place v.exit
  pub stage : v.stage ≡ stage_by (name_of t v.state)
  pub machine : v.machine ≡ machine_state_by t.final_state (name_of t v.state)
  pub machine_step : v.tapes.two.head ≡ Some (pos v.machine_step)

-- ---- what is shown, and the machine

-- after i steps of its own run from the word the machine is in this state, or step i is by this quintuple
abbrev pub MachineIsAt : Program → List ℕ → ℕ → MachineState → Type 0
MachineIsAt p word i (AtState j) = (c : Moment) × After p word i c × (c.state ≡ j)
MachineIsAt p word i (Within m) = (c d : Moment) × (n : ℕ) × (i ≡ suc n) × After p word n c × GoesBy anywhere p m c d

-- What is shown is a configuration of the reversible machine in the state that is shown, and represents a configuration
-- of the machine's own run from the word.
pub record ShowsMachine (p : Program) (word : List ℕ) (l : Limits) (t : Translation) (v : Layers) : Type 0 where
  pub config : Configuration ℕ
  pub state : config.state ≡ v.state
  pub spells : v.tapes ≡ spelled_config l config
  pub stands : Stands p word (in_state (name_of t) config)
  pub at : MachineIsAt p word v.machine_step v.machine
