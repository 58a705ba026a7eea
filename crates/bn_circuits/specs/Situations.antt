-- Circuits without the clock: steps of the signal that are not counted. The result of a run does not depend on the
-- number of steps made before. Therefore laws on long runs are stated on situations.
use Rattle.std.specs.Prelude.{◌≡◌, ℕ, ◌+◌, ◌≤◌, Bool, List, Option, Some, None, slice_get, slice_set, option_and_then}
use Rattle.bn_lists.specs.Runs.{Passes}
use Rattle.bn_circuits.specs.Circuits.{Circuit, clock, go_of, place_after, Crosses, Goes}
use Rattle.bn_circuits.specs.declared.place.Place.{Place}
use Rattle.bn_circuits.specs.declared.place.Place.TheVariants.{Enter, Left}
use Rattle.bn_circuits.specs.declared.config.Config.{Config}

-- a configuration without its number of steps
pub record Situation : Type 0 where
  pub states : List ℕ
  pub place : Place

abbrev pub situation : List ℕ → Place → Situation
situation states place = record { states = states; place = place }

abbrev pub situation_of : Config → Situation
situation_of c = situation c.states c.place

-- the configuration with this situation and this number of steps
abbrev pub counted : Situation → ℕ → Config
counted s n = record { states = s.states; place = s.place; steps = n }

-- one element step leads from s to t
abbrev pub Turns : Circuit → Situation → Situation → Type 0
Turns k s t = Crosses k s.states s.place t.states t.place

-- the situation after a move of this element to a state and an output port
abbrev pub crossed : Circuit → List ℕ → ℕ → (ℕ × ℕ) → Situation
crossed k states e m = situation (slice_set states e m.0) (place_after k.wires (record { element = e; line = m.1 }))

-- the same as a function
abbrev pub turn_from : Circuit → List ℕ → Place → Option Situation
turn_from k states (Left e o) = None
turn_from k states (Enter e i) =
    option_and_then (λ q. option_and_then (λ m. Some (crossed k states e m)) (go_of k.tables e q i))
    (slice_get states e)

abbrev pub turn : Circuit → Situation → Option Situation
turn k s = turn_from k s.states s.place

-- no step leads on
abbrev pub IsAtEnd : Circuit → Situation → Type 0
IsAtEnd k s = (t : Situation) → Turns k s t → ⊥

-- ---- laws

-- a counted step is a step within the clock
abbrev pub StepsAreCounted : Type 0
StepsAreCounted =
    ((k : Circuit) (c d : Config) → Goes k c d
    → Turns k (situation_of c) (situation_of d) × (d.steps ≡ c.steps + 1) × (c.steps + 1 ≤ clock))
    × ((k : Circuit) (s t : Situation) (n : ℕ) → Turns k s t → n + 1 ≤ clock → Goes k (counted s n) (counted t (n + 1)))

-- if the clock has room, a path of n steps is a path of n counted steps
abbrev pub PathsAreCounted : Type 0
PathsAreCounted =
    (k : Circuit) (test : Situation → Bool) (n : ℕ) (s t : Situation) (c : Config) → situation_of c ≡ s
    → Passes (Turns k) test n s t → c.steps + n ≤ clock
    → Passes (Goes k) (λ d. test (situation_of d)) n c (counted t (c.steps + n))
