-- The step of a circuit as a function, forward and backward, and runs of it.
use Rattle.std.specs.Prelude.{ℕ, ◌+◌, nat_le, List, [], ◌∷◌, Option, Some, None, if◌then◌else◌, slice_get, slice_set}
use Rattle.std.specs.Prelude.{option_and_then, unwrap_or}
use Rattle.std.proofs.Common.{zero, suc}
use Rattle.bn_circuits.specs.Circuits.{Circuit, clock, source, back_of}
use Rattle.bn_circuits.specs.Situations.{Situation, situation_of, counted, turn}
use Rattle.bn_circuits.specs.declared.line.Line.{Line}
use Rattle.bn_circuits.specs.declared.line.Wire.{Wire}
use Rattle.bn_circuits.specs.declared.place.Place.{Place}
use Rattle.bn_circuits.specs.declared.place.Place.TheVariants.{Enter, Left}
use Rattle.bn_circuits.specs.declared.config.Config.{Config}

-- the configuration with this situation and one step more, if the clock has room for it
abbrev pub next_by : ℕ → Situation → Option Config
next_by steps s = if nat_le (steps + 1) clock then Some (counted s (steps + 1)) else None

-- the successor of a configuration, if there is one
abbrev pub next : Circuit → Config → Option Config
next k c = option_and_then (next_by c.steps) (turn k (situation_of c))

-- the output port by which the signal reached this place
abbrev pub line_before : List Wire → Place → Option Line
line_before ws (Left e o) = Some (record { element = e; line = o })
line_before ws (Enter e i) = source ws (record { element = e; line = i })

-- the configuration before a move of this element from a state and an input port
abbrev pub moved_back : Config → ℕ → ℕ → (ℕ × ℕ) → Config
moved_back d steps e m = record { states = slice_set d.states e m.0; place = Enter e m.1; steps = steps }

-- the predecessor of a configuration, if there is one, by its number of steps
abbrev pub previous_by : Circuit → Config → ℕ → Option Config
previous_by k d zero = None
previous_by k d (suc steps) =
    option_and_then (λ o. option_and_then (λ r. option_and_then
    (λ m. Some (moved_back d steps o.element m)) (back_of k.tables o.element r o.line))
    (slice_get d.states o.element)) (line_before k.wires d.place)

abbrev pub previous : Circuit → Config → Option Config
previous k d = previous_by k d d.steps

-- the configuration after one step, or one step back, if there is one, otherwise the same configuration
abbrev pub advance : Circuit → Config → Config
advance k c = unwrap_or (next k c) c

abbrev pub retreat : Circuit → Config → Config
retreat k d = unwrap_or (previous k d) d

-- c after t steps, or after as many as can be made
unfoldable pub run : Circuit → Config → ℕ → Config
run k c zero = c
run k c (suc t) = advance k (run k c t)

-- c after t steps back, or after as many as can be made
unfoldable pub back : Circuit → Config → ℕ → Config
back k c zero = c
back k c (suc t) = retreat k (back k c t)

-- the place of a configuration, with the places that follow
abbrev pub placed : Option Config → (Config → List Place) → List Place
placed None rest = []
placed (Some d) rest = d.place ∷ rest d

-- the places after each step that can be made, the first step first, over at most t steps
unfoldable pub places : Circuit → ℕ → Config → List Place
places k zero c = []
places k (suc t) c = placed (next k c) (places k t)

-- the places after each step back that can be made, likewise
unfoldable pub places_back : Circuit → ℕ → Config → List Place
places_back k zero c = []
places_back k (suc t) c = placed (previous k c) (places_back k t)
