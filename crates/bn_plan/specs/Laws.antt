-- The statements of the laws of this crate, each a field of `Laws`.
use Rattle.std.specs.Prelude.{◌≡◌, ◌↔◌, ℕ, ◌<◌, ◌≤◌, List, [], ◌∷◌, length, map}
use Rattle.bn_circuits.specs.Circuits.{Circuit, IsCircuit, inputs_of, outputs_of}
use Rattle.bn_circuits.specs.declared.line.Wire.{Wire}
use Rattle.bn_element.specs.Rotary.{north, east, south, west}
use Rattle.bn_plan.specs.declared.tracked.Tracked.{Tracked}
use Rattle.bn_lists.specs.Lists.{Has}
use Rattle.bn_plan.specs.Wires.{density, IsDensest, AreRotary, AreWiresOf}
use Rattle.bn_plan.specs.Plans.{FloorPlan, IsPlan, IsFloorPlan, IsAssignment, TracksFit, HasTracks, tracks_of, wires_of}
use Rattle.bn_plan.specs.Assigned.{assigned}
use Rattle.bn_plan.specs.declared.positions.TheConstants.{MOST_PLANNED}
use Rattle.std.specs.Prelude.{◌^◌}

-- the wires of a circuit of elements with at most four inputs and four outputs have exactly one floor plan, for every
-- order of their list
abbrev pub HasOneFloorPlan : Type 0
HasOneFloorPlan = ((ws : List Wire) → (f : FloorPlan) × IsFloorPlan ws f)
    × ((ws vs : List Wire) (f g : FloorPlan) → AreRotary ws → AreRotary vs → ((w : Wire) → Has ws w ↔ Has vs w)
    → IsFloorPlan ws f → IsFloorPlan vs g → f ≡ g)

-- wires on one track do not overlap
abbrev pub PlansFit : Type 0
PlansFit = (ws : List Wire) (f : FloorPlan) → IsFloorPlan ws f → TracksFit f.wires

-- any assignment in which wires on one track do not overlap has at least as many tracks as the number of wires that
-- cover any one position
abbrev pub TracksAreNeeded : Type 0
TracksAreNeeded = (ws : List Wire) (ts : List Tracked) (used : List ℕ) (p : ℕ) → IsAssignment ws ts → HasTracks used ts
    → density ws p ≤ length used

-- no such assignment has fewer tracks than the plan
abbrev pub NoneHasFewer : Type 0
NoneHasFewer = (ws : List Wire) (f : FloorPlan) (ts : List Tracked) (used : List ℕ) → IsFloorPlan ws f
    → IsAssignment ws ts → HasTracks used ts → f.tracks ≤ length used

-- the number of tracks of a plan is the number of wires that cover its densest position, and the plan uses exactly the
-- tracks from 1 to this number
abbrev pub TracksAreTheDensity : Type 0
TracksAreTheDensity = (ws : List Wire) (f : FloorPlan) → IsFloorPlan ws f
    → (density ws f.densest ≡ f.tracks)
    × ((t : Tracked) → Has f.wires t → (0 < t.track) × (t.track ≤ f.tracks))
    × ((n : ℕ) → 0 < n → n ≤ f.tracks → (t : Tracked) × Has f.wires t × (t.track ≡ n))

-- without wires there are no tracks, and the densest position is 0
abbrev pub NoWiresNoTracks : Type 0
NoWiresNoTracks = (f : FloorPlan) → IsFloorPlan [] f → (f.tracks ≡ 0) × (f.densest ≡ 0)

-- a plan is the value of the function `assigned` for its wires
abbrev pub PlansCompute : Type 0
PlansCompute = (ws : List Wire) (plan : List Tracked) → IsPlan ws plan → plan ≡ assigned [] (wires_of plan)

-- the wires of a circuit of elements with at most four inputs and four outputs satisfy the condition of the laws above
abbrev pub CircuitsAreRotary : Type 0
CircuitsAreRotary = (k : Circuit) (ws : List Wire) → IsCircuit k
    → ((e : ℕ) → (inputs_of k.tables e ≤ 4) × (outputs_of k.tables e ≤ 4)) → AreWiresOf k.wires ws → AreRotary ws

-- a wire from an output port of one element to an input port of another
abbrev pub joins : ℕ → ℕ → ℕ → ℕ → Wire
joins from output to input =
    record { from = record { element = from; line = output }; to = record { element = to; line = input } }

-- the wires of two columns of two rows, in the order of their lesser ends
abbrev pub bank_wires : List Wire
bank_wires =
    joins 0 north 2 east
    ∷ joins 0 east 3 west
    ∷ joins 0 south 1 north
    ∷ joins 0 west 4 east
    ∷ joins 2 west 0 north
    ∷ joins 4 west 0 east
    ∷ joins 1 north 0 south
    ∷ joins 1 east 4 west
    ∷ joins 1 south 2 north
    ∷ joins 2 north 1 south
    ∷ joins 2 south 2 south
    ∷ joins 3 north 5 east
    ∷ joins 3 south 4 north
    ∷ joins 5 west 3 north
    ∷ joins 4 north 3 south
    ∷ joins 4 south 5 north
    ∷ joins 5 north 4 south
    ∷ joins 5 south 5 south
    ∷ []

-- the tracks of their plan, and its densest position
abbrev pub BankExample : Type 0
BankExample = (map (λ (t : Tracked). t.track) (assigned [] bank_wires)
    ≡ 1 ∷ 2 ∷ 3 ∷ 4 ∷ 5 ∷ 6 ∷ 7 ∷ 7 ∷ 8 ∷ 3 ∷ 3 ∷ 1 ∷ 3 ∷ 5 ∷ 8 ∷ 2 ∷ 3 ∷ 3 ∷ [])
    × (tracks_of (assigned [] bank_wires) ≡ 8)
    × IsDensest bank_wires 8 10

-- ---- the laws

pub record Laws : Type 0 where
  -- The wires of a circuit of rotary elements have exactly one floor plan, for every order of their list.
  pub floor_plan_is_one : HasOneFloorPlan
  -- Wires on one track do not overlap.
  pub wires_of_one_track_fit : PlansFit
  -- An assignment in which wires on one track do not overlap has at least as many tracks as the number of wires that
  -- cover any position.
  pub tracks_are_needed : TracksAreNeeded
  -- No assignment in which wires on one track do not overlap has fewer tracks than the plan.
  pub none_has_fewer : NoneHasFewer
  -- The number of tracks of a plan is its greatest density, and the plan uses exactly the tracks from 1 to this
  -- number.
  pub tracks_are_the_density : TracksAreTheDensity
  -- Without wires there are no tracks, and the densest position is 0.
  pub no_wires_no_tracks : NoWiresNoTracks
  -- A plan is the value of the function `assigned` for its wires.
  pub plans_compute : PlansCompute
  -- The wires of a circuit of rotary elements satisfy the condition of the laws on tracks.
  pub circuits_are_rotary : CircuitsAreRotary
  -- The plan of the wires of a bank of six elements has 8 tracks, assigned as listed, and its densest position is 10.
  pub bank_example : BankExample
  -- At most 2^22 elements have a floor plan.
  pub most_planned_is_stated : MOST_PLANNED ≡ 2 ^ 22
