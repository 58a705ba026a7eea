-- The schedule that undoes a schedule.
use Rattle.std.specs.Prelude.{ℕ, zero, suc, ◌-◌, ◌<◌, ◌≤◌, Bool, true, false, List, [], ◌∷◌, ◌++◌, slice_get}
use Rattle.std.specs.Option.{option_map_or}
use Rattle.bn_circuits.specs.Circuits.{clock}
use Rattle.bn_circuits.specs.declared.config.Config.{Config}
use Rattle.bn_farm.specs.Farms.{stepped, play, ticks_of, FarmBoard, circuit_in}
use Rattle.bn_farm.specs.declared.event.Event.{Event}

-- the other direction
abbrev pub other : Bool → Bool
other true = false
other false = true

-- the number of steps that led from c to d, forward or backward, computed from the step counts of the configurations
abbrev pub steps_between : Bool → Config → Config → ℕ
steps_between true c d = d.steps - c.steps
steps_between false c d = c.steps - d.steps

-- the number of steps that a line makes on this farm
abbrev pub made_on : Event → FarmBoard → ℕ
made_on e b = steps_between e.forward b.spelling.config (stepped e.forward (circuit_in b) b.spelling.config e.count)

abbrev pub made : List FarmBoard → Event → ℕ
made farm e = option_map_or (made_on e) (slice_get farm e.board) 0

-- a line of this many ticks, and no line for no ticks
abbrev pub event_of : Bool → ℕ → ℕ → List Event
event_of forward board zero = []
event_of forward board (suc n) = record { forward = forward; board = board; count = suc n } ∷ []

-- For each line that made steps, the line with the other sign and the number made, in reverse order.
abbrev pub undoing : List FarmBoard → List Event → List Event
undoing farm [] = []
undoing farm (e ∷ es) = undoing (play farm (ticks_of e)) es ++ event_of (other e.forward) e.board (made farm e)

-- the lines that made steps, each with the number made, in their order
abbrev pub moving : List FarmBoard → List Event → List Event
moving farm [] = []
moving farm (e ∷ es) = event_of e.forward e.board (made farm e) ++ moving (play farm (ticks_of e)) es

-- a line that is allowed in a schedule of a farm of this many circuits, with a count from 1 to `CLOCK`
pub record IsLawful (boards : ℕ) (e : Event) : Type 0 where
  pub some_events : 0 < e.count
  pub few_events : e.count ≤ clock
  pub has_board : e.board < boards

abbrev pub AllLawful : ℕ → List Event → Type 0
AllLawful boards [] = Unit {0}
AllLawful boards (e ∷ es) = IsLawful boards e × AllLawful boards es
