-- A farm: configurations of independent circuits of rotary elements, events on them, and the result of a schedule of
-- events (this project's own definition).
use Rattle.std.specs.Prelude.{◌≡◌, ℕ, zero, suc, ◌+◌, ◌==◌, Bool, true, false, List, [], ◌∷◌, ◌++◌, replicate, Some}
use Rattle.std.specs.Prelude.{if◌then◌else◌, slice_get}
use Rattle.bn_circuits.specs.Circuits.{Circuit}
use Rattle.bn_circuits.specs.Stepping.{run, back}
use Rattle.bn_circuits.specs.declared.config.Config.{Config}
use Rattle.bn_netlist_laws.specs.Spelling.{Spelling, Admits, Spelled, circuit_of, moved_to}
use Rattle.bn_netlist_laws.specs.declared.version.Version.{Version}
use Rattle.bn_netlist.specs.declared.net_config.NetConfig.{NetConfig}
use Rattle.bn_netlist.specs.NetText.{spelling_of}
use Rattle.bn_farm.specs.declared.event.Event.{Event}

-- ---- boards

-- a configuration of a circuit, and the version of its text
pub record FarmBoard : Type 0 where
  pub version : Version
  pub spelling : Spelling

abbrev pub board_of : NetConfig → FarmBoard
board_of c = record { version = c.version; spelling = spelling_of c }

abbrev pub circuit_in : FarmBoard → Circuit
circuit_in b = circuit_of b.spelling

-- the version of a board admits its configuration
abbrev pub IsAdmitted : FarmBoard → Type 0
IsAdmitted b = Admits b.version b.spelling

-- a board has this text, in its version
abbrev pub IsSpelled : FarmBoard → List ℕ → Type 0
IsSpelled b text = Spelled b.version b.spelling text

-- the same circuit in another configuration
abbrev pub in_config : FarmBoard → Config → FarmBoard
in_config b c = record { version = b.version; spelling = moved_to b.spelling c }

-- each circuit can be written
abbrev pub IsFarm : List FarmBoard → Type 0
IsFarm farm = (i : ℕ) (b : FarmBoard) → slice_get farm i ≡ Some b → IsAdmitted b

-- the number of elements of all circuits together
abbrev pub elements_together : List FarmBoard → ℕ
elements_together [] = 0
elements_together (b ∷ bs) = b.spelling.elements + elements_together bs

-- ---- events

-- one step of one circuit, forward or backward; circuits are counted from 0
pub record Tick : Type 0 where
  pub forward : Bool
  pub board : ℕ

abbrev pub tick : Bool → ℕ → Tick
tick forward board = record { forward = forward; board = board }

-- c after at most n steps, forward or backward
abbrev pub stepped : Bool → Circuit → Config → ℕ → Config
stepped true k c n = run k c n
stepped false k c n = back k c n

-- the same circuit after at most n steps
abbrev pub after_steps : Bool → ℕ → FarmBoard → FarmBoard
after_steps forward n b = in_config b (stepped forward (circuit_in b) b.spelling.config n)

-- the farm with one circuit changed
abbrev pub at_board : (FarmBoard → FarmBoard) → ℕ → List FarmBoard → List FarmBoard
at_board change i [] = []
at_board change zero (b ∷ bs) = change b ∷ bs
at_board change (suc i) (b ∷ bs) = b ∷ at_board change i bs

-- the farm after one tick
abbrev pub ticked : Tick → List FarmBoard → List FarmBoard
ticked t farm = at_board (after_steps t.forward 1) t.board farm

-- the farm after these ticks, the first tick first
abbrev pub play : List FarmBoard → List Tick → List FarmBoard
play farm [] = farm
play farm (t ∷ ts) = play (ticked t farm) ts

-- an event is as many ticks as it counts, all equal
abbrev pub ticks_of : Event → List Tick
ticks_of e = replicate e.count (tick e.forward e.board)

-- the ticks of a schedule, event by event
abbrev pub ticks : List Event → List Tick
ticks [] = []
ticks (e ∷ es) = ticks_of e ++ ticks es

-- the farm after a schedule
abbrev pub farm_after : List FarmBoard → List Event → List FarmBoard
farm_after farm schedule = play farm (ticks schedule)

-- the signs of the ticks of one circuit, in their order
abbrev pub own : ℕ → List Tick → List Bool
own i [] = []
own i (t ∷ ts) = if t.board == i then t.forward ∷ own i ts else own i ts

-- one circuit after its own ticks, the first tick first
abbrev pub alone : FarmBoard → List Bool → FarmBoard
alone b [] = b
alone b (s ∷ ss) = alone (after_steps s 1 b) ss
