-- Banks by their input ports, and leaps over them: terms for the contracts of the functions.
use Rattle.std.specs.Prelude.{◌≡◌, ℕ, ◌+◌, ◌-◌, ◌<◌, ◌≤◌, Bool, length, slice_get, slice_set, Some}
use Rattle.bn_element.specs.Tables.{Table}
use Rattle.bn_element.specs.Rotary.{horizontal, vertical, east}
use Rattle.bn_element.specs.declared.rotary.Rotary.{Rotary}
use Rattle.bn_circuits.specs.Circuits.{Circuit, IsConfig, IsOutputOf, IsStuck, clock, place_after, line_at}
use Rattle.bn_circuits.specs.declared.line.Line.{Line}
use Rattle.bn_circuits.specs.declared.place.Place.TheVariants.{Enter}
use Rattle.bn_circuits.specs.declared.config.Config.{Config}
use Rattle.bn_circuits.specs.Parts.{Parts}
use Rattle.bn_circuits.specs.declared.net.TheConstants.{MOST_ELEMENTS}
use Rattle.bn_circuits.specs.RotaryNets.{rotary_circuit}
use Rattle.bn_packed.specs.PackedNets.{config_at}
use Rattle.bn_packed.specs.Stopping.{PassesBy}
use Rattle.bn_rsm.specs.Costs.{move_cost}
use Rattle.bn_realise.specs.Banks.{bottom_at, column_at, bank_input_line}
use Rattle.bn_boards.specs.Boards.{base}
use Rattle.bn_leap.specs.Leaps.{IsUnderWay}
use Rattle.bn_leap.specs.Inside.{PassesThrough}
use Rattle.bn_leap.specs.declared.entry.Entry.{Entry}
use Rattle.bn_leap.specs.declared.leap.Leap.{Leap}

-- an input port of the bank of one of the network's modules
pub record IsEntryOf (n : Circuit) (v : Entry) : Type 0 where
  pub at_module : ℕ
  pub table : Table
  pub has_table : slice_get n.tables at_module ≡ Some table
  pub first : v.first ≡ base n.tables at_module
  pub states : v.states ≡ table.states
  pub lines : v.lines ≡ table.inputs
  pub row : v.row < v.lines

-- a board that is under way, and the input ports of banks of its network
pub record IsLeapable (net : Parts Rotary) (c : Config) (has : Entry → Type 0) : Type 0 where
  pub network : Circuit
  pub way : IsUnderWay network (rotary_circuit net) c
  pub good : IsConfig (rotary_circuit net) c
  pub banks : (v : Entry) → has v → IsEntryOf network v

-- the same, with the signal about to enter this input port
pub record IsAt (net : Parts Rotary) (c : Config) (v : Entry) : Type 0 where
  pub network : Circuit
  pub way : IsUnderWay network (rotary_circuit net) c
  pub good : IsConfig (rotary_circuit net) c
  pub entry : IsEntryOf network v
  pub enters : c.place ≡ Enter (bank_input_line v.first v.row).element (bank_input_line v.first v.row).line

-- the bank lies within this many elements, and its end is at most `MOST_ELEMENTS`
pub record Fits (v : Entry) (count : ℕ) : Type 0 where
  pub within : column_at v.first v.lines v.states ≤ count
  pub few : column_at v.first v.lines v.states ≤ MOST_ELEMENTS

-- the numbers of a move of a bank are in range, and its cost is at most `CLOCK`
pub record IsMoveOf (v : Entry) (state : ℕ) (to : ℕ × ℕ) : Type 0 where
  pub some : 0 < v.states
  pub fits : column_at v.first v.lines v.states ≤ MOST_ELEMENTS
  pub start : state < v.states
  pub next : to.0 < v.states
  pub out : to.1 < v.lines
  pub cost : move_cost v.states v.lines state v.row to.0 to.1 ≤ clock

-- the result of the move
abbrev pub leap_of : Entry → ℕ → (ℕ × ℕ) → Leap
leap_of v state to = record {
  unmarked = bottom_at v.first v.lines state;
  marked = bottom_at v.first v.lines to.0;
  exit = line_at (column_at v.first v.lines (v.states - 1) + to.1) east;
  steps = move_cost v.states v.lines state v.row to.0 to.1;
}

-- the configuration after a leap
abbrev pub leapt : Circuit → Config → Leap → Config
leapt k c v =
    config_at (slice_set (slice_set c.states v.unmarked vertical) v.marked horizontal) (place_after k.wires v.exit)
    (c.steps + v.steps)

-- if the clock admits the steps of the leap, they lead to its configuration, and strictly between the signal is about
-- to enter a port that is not one of these
pub record IsLeap (k : Circuit) (stops : Line → Bool) (c : Config) (v : Leap) : Type 0 where
  pub unmarked : v.unmarked < length k.tables
  pub marked : v.marked < length k.tables
  pub exit : IsOutputOf k.tables v.exit
  pub some : 0 < v.steps
  pub passes : c.steps + v.steps ≤ clock → PassesBy k stops v.steps c (leapt k c v)

-- the leap crosses the bank of this input port: it is a leap for a run with any stops that are not met inside the bank
abbrev pub IsCrossing : Circuit → Config → Entry → Leap → Type 0
IsCrossing k c e v = (stops : Line → Bool) → PassesThrough stops e → IsLeap k stops c v

-- The run made this many steps, and at least one if one can be made. Strictly between, the signal was about to enter a
-- port that is not one of these.
pub record IsAdvance (k : Circuit) (stops : Line → Bool) (most made : ℕ) (c d : Config) : Type 0 where
  pub bound : made ≤ most
  pub passes : PassesBy k stops made c d
  pub ended : made ≡ 0 → IsStuck k d
