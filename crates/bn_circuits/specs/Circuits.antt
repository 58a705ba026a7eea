-- Circuits of elements, and their configurations with one signal.
use Rattle.std.specs.Prelude.{◌≡◌, ℕ, ◌+◌, ◌<◌, ◌≤◌, ◌↔◌, ◌==◌, ◌&&◌, List, [], ◌∷◌, length, Option, Some, None}
use Rattle.std.specs.Prelude.{if◌then◌else◌, Bool, slice_get, slice_set, option_and_then}
use Rattle.std.specs.Option.{option_map_or}
use Rattle.bn_element.specs.Tables.{Table, IsReversible}
use Rattle.bn_circuits.specs.declared.line.Line.{Line}
use Rattle.bn_circuits.specs.declared.line.Wire.{Wire}
use Rattle.bn_circuits.specs.declared.place.Place.{Place}
use Rattle.bn_circuits.specs.declared.place.Place.TheVariants.{Enter, Left}
use Rattle.bn_circuits.specs.declared.config.Config.{Config}

-- the greatest number of steps that a configuration counts
abbrev pub clock : ℕ
clock = 4611686018427387904

-- a circuit: the table of each element, and its wires
pub record Circuit : Type 0 where
  pub tables : List Table
  pub wires : List Wire

-- the port with this number of this element
abbrev pub line_at : ℕ → ℕ → Line
line_at e l = record { element = e; line = l }

-- the two ports are the same
abbrev pub same_line : Line → Line → Bool
same_line a b = a.element == b.element && a.line == b.line

-- the input port to which the first wire of this output port leads
abbrev pub target : List Wire → Line → Option Line
target [] from = None
target (w ∷ ws) from = if same_line w.from from then Some w.to else target ws from

-- the output port from which the first wire of this input port comes
abbrev pub source : List Wire → Line → Option Line
source [] to = None
source (w ∷ ws) to = if same_line w.to to then Some w.from else source ws to

-- the wires are one to one: an output port has an input port as its target exactly if it is the source of that port
abbrev pub IsOneToOne : List Wire → Type 0
IsOneToOne ws = (from to : Line) → (target ws from ≡ Some to) ↔ (source ws to ≡ Some from)

-- the parts of the table of an element, 0 or `None` if there is no such element
abbrev pub states_of : List Table → ℕ → ℕ
states_of ts e = option_map_or (λ t. t.states) (slice_get ts e) 0

abbrev pub inputs_of : List Table → ℕ → ℕ
inputs_of ts e = option_map_or (λ t. t.inputs) (slice_get ts e) 0

abbrev pub outputs_of : List Table → ℕ → ℕ
outputs_of ts e = option_map_or (λ t. t.outputs) (slice_get ts e) 0

abbrev pub go_of : List Table → ℕ → ℕ → ℕ → Option (ℕ × ℕ)
go_of ts e q i = option_and_then (λ t. t.go q i) (slice_get ts e)

abbrev pub back_of : List Table → ℕ → ℕ → ℕ → Option (ℕ × ℕ)
back_of ts e r o = option_and_then (λ t. t.back r o) (slice_get ts e)

-- an input port, an output port of the circuit
abbrev pub IsInputOf : List Table → Line → Type 0
IsInputOf ts l = l.line < inputs_of ts l.element

abbrev pub IsOutputOf : List Table → Line → Type 0
IsOutputOf ts l = l.line < outputs_of ts l.element

-- Each table is reversible, and the wires lead one to one from output ports to input ports.
pub record IsCircuit (k : Circuit) : Type 0 where
  pub reversible : (e : ℕ) (t : Table) → slice_get k.tables e ≡ Some t → IsReversible t
  pub one_to_one : IsOneToOne k.wires
  pub wired : (from to : Line) → target k.wires from ≡ Some to → IsOutputOf k.tables from × IsInputOf k.tables to

-- The signal is about to enter an input port, or it has left by an output port that has no wire.
abbrev pub IsPlace : Circuit → Place → Type 0
IsPlace k (Enter e i) = i < inputs_of k.tables e
IsPlace k (Left e o) = (o < outputs_of k.tables e) × (target k.wires (record { element = e; line = o }) ≡ None)

-- One state for each element, each in range.
pub record AreStates (tables : List Table) (states : List ℕ) : Type 0 where
  pub count : length states ≡ length tables
  pub range : (e q : ℕ) → slice_get states e ≡ Some q → q < states_of tables e

-- A configuration of the circuit: one state for each element, each in range; an admissible place; and at most the
-- greatest number of steps.
pub record IsConfig (k : Circuit) (c : Config) : Type 0 where
  pub count : length c.states ≡ length k.tables
  pub range : (e q : ℕ) → slice_get c.states e ≡ Some q → q < states_of k.tables e
  pub place : IsPlace k c.place
  pub in_time : c.steps ≤ clock

-- where the signal is after it has left an element by this output port: at the end of its wire, or outside
abbrev pub place_at : Option Line → Line → Place
place_at None from = Left from.element from.line
place_at (Some to) from = Enter to.element to.line

abbrev pub place_after : List Wire → Line → Place
place_after ws from = place_at (target ws from) from

-- One element step leads from the states `old` and the place `from` to `new` and `to`. The signal enters an element
-- whose table has a move from its state and this input port. The state changes there and nowhere else, and the signal
-- continues from the output port.
pub record Crosses (k : Circuit) (old : List ℕ) (from : Place) (new : List ℕ) (to : Place) : Type 0 where
  pub element : ℕ
  pub input : ℕ
  pub output : ℕ
  pub before : ℕ
  pub after : ℕ
  pub enters : from ≡ Enter element input
  pub has_state : slice_get old element ≡ Some before
  pub moves : go_of k.tables element before input ≡ Some (after, output)
  pub states : new ≡ slice_set old element after
  pub place : to ≡ place_after k.wires (record { element = element; line = output })

-- One element step leads from c to d; d counts one step more, within the clock.
pub record Goes (k : Circuit) (c d : Config) : Type 0 where
  pub crosses : Crosses k c.states c.place d.states d.place
  pub steps : d.steps ≡ c.steps + 1
  pub in_time : c.steps + 1 ≤ clock

-- no step leads from c to any configuration
abbrev pub IsStuck : Circuit → Config → Type 0
IsStuck k c = (d : Config) → Goes k c d → ⊥

-- no step leads to d
abbrev pub IsFirst : Circuit → Config → Type 0
IsFirst k d = (c : Config) → Goes k c d → ⊥
