-- A circuit (*board* in names): a net of rotary elements in a configuration that was reached from its start, with the
-- layout by which it is read (own to this project).
use Rattle.std.specs.Prelude.{◌≡◌, ℕ, ◌+◌, ◌-◌, ◌<◌, ◌≤◌, ◌^◌, List, All, length, Option, Some, None, slice_get}
use Rattle.bn_element.specs.Tables.{Table}
use Rattle.bn_circuits.specs.Situations.{Situation}
use Rattle.bn_network.specs.Cells.{cell_table}
use Rattle.bn_network.specs.Networks.{IsTape, cells_in, first_cell}
use Rattle.bn_boards.specs.Boards.{AreModules, StandsFor, base}
use Rattle.bn_boards.specs.Layouts.{symbol_count_at, cell_element}
use Rattle.bn_lists.specs.Runs.{Reaches}
use Rattle.bn_circuits.specs.Circuits.{Circuit, Goes, IsCircuit, IsConfig}
use Rattle.bn_circuits.specs.Stepping.{back}
use Rattle.bn_circuits.specs.declared.line.Line.{Line}
use Rattle.bn_circuits.specs.declared.config.Config.{Config}
use Rattle.bn_element.specs.declared.rotary.Rotary.{Rotary}
use Rattle.bn_circuits.specs.Parts.{Parts}
use Rattle.bn_circuits.specs.Order.{AreInOrder}
use Rattle.bn_circuits.specs.RotaryNets.{rotary_circuit}
use Rattle.bn_quad.specs.Quadruples.{Configuration, Quadruples}
use Rattle.bn_realise.specs.Banks.{bank_input_line, column_at}
use Rattle.bn_element.specs.Rotary.{east}
use Rattle.bn_circuits.specs.Circuits.{line_at}
use Rattle.bn_network.specs.declared.limits.TheConstants.{MOST_SYMBOLS}
use Rattle.bn_control.specs.Controlled.{IsTapeAwaited}
use Rattle.bn_network.specs.Controls.{ControlState}
use Rattle.bn_network.specs.Starts.{start_from}
use Rattle.bn_boards.specs.Boards.{IsBoard, board_start}
use Rattle.bn_boards.specs.Layouts.{Layout, IsLayout, lines_at, elements_of}
use Rattle.bn_network.specs.Limits.{AreSmall}
use Rattle.bn_network_assembly.specs.Assembled.{Assembled, IsAssembledFrom, network_of}
use Rattle.bn_circuits.specs.declared.net.TheConstants.{MOST_ELEMENTS}

-- a net, a configuration of it, the port by which the signal enters at the start, the port by which it leaves at the
-- end, and the layout
pub record Flattened : Type 0 where
  pub net : Parts Rotary
  pub config : Config
  pub start : Line
  pub end : Line
  pub layout : Layout

-- ---- the origin of a circuit

-- the configuration from which this one was reached: as many steps back as were made
abbrev pub origin_by : Circuit → Config → Config
origin_by k c = back k c c.steps

abbrev pub origin : Flattened → Config
origin b = origin_by (rotary_circuit b.net) b.config

-- the configuration is one of the circuit's, and it is reached from its origin in its number of steps
pub record IsReached (k : Circuit) (c : Config) : Type 0 where
  pub good : IsConfig k c
  pub reaches : Reaches (Goes k) c.steps (origin_by k c) c

-- the second circuit has the net, the start, the end, the layout and the origin of the first
pub record IsSameBoard (a b : Flattened) : Type 0 where
  pub net : b.net ≡ a.net
  pub start : b.start ≡ a.start
  pub end : b.end ≡ a.end
  pub layout : b.layout ≡ a.layout
  pub origin_is : origin b ≡ origin a

-- ---- the invariant of a layout

-- a first command is sent by an output port to a tape, and its reply is awaited in a state of the control
abbrev pub IsFirstWithin : ℕ → ℕ → Option (ℕ × ℕ) → Type 0
IsFirstWithin states lines None = Unit {0}
IsFirstWithin states lines (Some f) = (f.0 < states) × (1 ≤ f.1) × (f.1 < lines)

-- The window is not too large, each tape has at least one symbol and not too many, the control has a state, the
-- circuit does not have too many elements, and first commands and awaited reads are within these numbers.
pub record IsLayoutKept (b : Layout) : Type 0 where
  pub small : AreSmall b.limits
  pub tapes : length b.symbols ≡ 3
  pub some_symbols : All (λ z. 1 ≤ z) b.symbols
  pub few_symbols : All (λ z. z ≤ MOST_SYMBOLS) b.symbols
  pub some_states : 0 < b.states
  pub few_elements : elements_of b ≤ MOST_ELEMENTS
  pub few_firsts : length b.firsts < 2 ^ 32
  pub firsts_within : All (IsFirstWithin b.states (lines_at b)) b.firsts
  pub awaited_counted : length b.awaited ≡ b.states
  pub awaited_tapes : All IsTapeAwaited b.awaited

-- A net is the circuit of a network whose modules are placed as the layout says, and this configuration of it
-- represents a situation of the network.
pub record IsOnNetwork (net : Parts Rotary) (c : Config) (b : Layout) : Type 0 where
  pub network : Circuit
  pub modules : AreModules network
  pub board : IsBoard network (rotary_circuit net)
  pub situation : Situation
  pub stands : StandsFor network situation c
  pub control : Table
  pub has_control : slice_get network.tables 0 ≡ Some control
  pub control_states : b.states ≡ control.states
  pub control_lines : lines_at b ≡ control.inputs
  pub cells : (t p : ℕ) → IsTape t → p < cells_in b.limits t
      → slice_get network.tables (first_cell b.limits t + p) ≡ Some (cell_table (symbol_count_at b t))
  pub bases : (t p : ℕ) → IsTape t → p < cells_in b.limits t
      → base network.tables (first_cell b.limits t + p) ≡ cell_element b t p

-- the invariant of a circuit
pub record IsBoardKept (b : Flattened) : Type 0 where
  pub circuit : IsCircuit (rotary_circuit b.net)
  pub order : AreInOrder b.net.wires
  pub reached : IsReached (rotary_circuit b.net) b.config
  pub layout : IsLayoutKept b.layout
  pub elements : length b.net.elements ≡ elements_of b.layout
  pub network : IsOnNetwork b.net (origin b) b.layout

-- ---- the circuit of a network

-- the port by which the signal enters at the start: the control's from outside; and the port by which it leaves at
-- the end: the control's to the outside
abbrev pub start_line : Line
start_line = bank_input_line 0 0

abbrev pub end_line : Layout → Line
end_line b = line_at (column_at 0 (lines_at b) (b.states - 1)) east

-- The circuit of an assembled network: for the machine, the window and the configuration for which the network was
-- assembled, it is the network's circuit at the start, and the layout is the machine's.
pub record IsFlattened (a : Assembled) (b : Flattened) : Type 0 where
  pub board : IsBoard (network_of a) (rotary_circuit b.net)
  pub layout : (m : Quadruples) (c : Configuration ℕ) (names : List ControlState)
      → IsAssembledFrom m a.limits c names a → IsLayout m a.limits names b.layout
  pub config : (m : Quadruples) (c : Configuration ℕ) (names : List ControlState)
      → IsAssembledFrom m a.limits c names a
      → b.config ≡ board_start (network_of a).tables (start_from m a.limits c)
  pub start : b.start ≡ start_line
  pub end : b.end ≡ end_line b.layout
