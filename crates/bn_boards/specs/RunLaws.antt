-- The statements of this crate's laws, each a field of `Laws`.
use Rattle.std.specs.Prelude.{◌≡◌, ◌≢◌, ◌↔◌, ℕ, ◌+◌, ◌*◌, ◌<◌, ◌≤◌, List, length, Bool}
use Rattle.bn_circuits.specs.Circuits.{clock}
use Rattle.bn_circuits.specs.Stepping.{back, run}
use Rattle.bn_circuits.specs.declared.place.Place.TheVariants.{Enter}
use Rattle.bn_circuits.specs.declared.place.Place.{Place}
use Rattle.bn_machine.specs.Machine.{Program}
use Rattle.bn_machine.specs.Outcome as outcome
use Rattle.bn_machine.specs.Outcome.{Limits, Outcome, HasOutcome}
use Rattle.bn_machine.specs.declared.quint.Side.{Side}
use Rattle.bn_bennett_laws.specs.declared.name.Name.TheVariants.{Compute}
use Rattle.bn_bennett.specs.Translation.{name_of}
use Rattle.bn_boards.specs.declared.exit.Exit.{Exit}
use Rattle.bn_boards.specs.declared.exit.Exit.TheVariants as exit
use Rattle.bn_boards.specs.Layouts.{IsExit, moments}
use Rattle.bn_boards.specs.Flats.{Flat, machine_of, IsFlatOf, IsAccepted, flat_start}
use Rattle.bn_boards.specs.Costs.{HasCost, bound_of}
use Rattle.bn_boards.specs.BoardRuns.{IsExitFor, RunsToExit, SpellsRestored}
use Rattle.bn_boards.specs.Journeys.{NetworkEndsAs}
use Rattle.bn_network.specs.Moments.{TellsMoments}
use Rattle.bn_circuits.specs.Situations.{Situation}

-- the circuit runs to the exit that the outcome of the machine's own bounded run determines
abbrev pub BoardsRunToTheirExit : Type 0
BoardsRunToTheirExit =
    (p : Program) (word : List ℕ) (l : Limits) (f : Flat) → IsFlatOf p word l f → IsAccepted p word l f
    → (i : ℕ) (o : Outcome) → HasOutcome p word l i o → RunsToExit p f i o

-- its network passes its moments to that end
abbrev pub NetworksEndAlike : Type 0
NetworksEndAlike =
    (p : Program) (word : List ℕ) (l : Limits) (f : Flat) (test : Situation → Bool) → IsFlatOf p word l f
    → IsAccepted p word l f → TellsMoments (machine_of f) f.names f.network test
    → (i : ℕ) (o : Outcome) → HasOutcome p word l i o → NetworkEndsAs f test i o

-- a circuit has at most one cost
abbrev pub CostsAreOne : Type 0
CostsAreOne = (f : Flat) (a b : ℕ) → HasCost f a → HasCost f b → a ≡ b

-- at its cost a circuit has exactly the exits that the outcome determines
abbrev pub ExitsTellOutcomes : Type 0
ExitsTellOutcomes =
    (p : Program) (word : List ℕ) (l : Limits) (f : Flat) → IsFlatOf p word l f → IsAccepted p word l f → (cost : ℕ)
    → HasCost f cost → (i : ℕ) (o : Outcome) → HasOutcome p word l i o
    → (e : Exit) → IsExit f.layout (run f.circuit (flat_start f) cost).place e ↔ IsExitFor f o e

-- a place at which the signal has left the circuit: by the end port exactly if the machine halts, with the exit
-- `Stuck` in a state at a symbol exactly if the machine is stuck there, by an end of a tape exactly if a head of the
-- machine would leave there, and by no other port
pub record LeavesByOutcome (p : Program) (word : List ℕ) (l : Limits) (f : Flat) (at_end : Place) : Type 0 where
  pub by_end : IsExit f.layout at_end exit.End ↔ ((i : ℕ) × (y : List ℕ) × HasOutcome p word l i (outcome.Halted y))
  pub by_stuck : (a c : ℕ) → IsExit f.layout at_end (exit.Stuck a c) ↔ ((i : ℕ) × (j : ℕ)
      × HasOutcome p word l i (outcome.Stuck j c) × (name_of f.translation a ≡ Compute j))
  pub by_window : (t : ℕ) (s : Side) → IsExit f.layout at_end (exit.Window t s) ↔ ((i : ℕ)
      × HasOutcome p word l i (outcome.Outside t s))
  pub no_name : IsExit f.layout at_end exit.Unnamed → ⊥
  pub left : IsExit f.layout at_end exit.Inside → ⊥

abbrev pub BoardsLeaveByOutcomes : Type 0
BoardsLeaveByOutcomes =
    (p : Program) (word : List ℕ) (l : Limits) (f : Flat) → IsFlatOf p word l f → IsAccepted p word l f → (cost : ℕ)
    → HasCost f cost → LeavesByOutcome p word l f (run f.circuit (flat_start f) cost).place

-- a circuit's cost is within its bound, which is within the clock; below the cost the signal is inside, and at the
-- cost it has left
pub record EndsInTime (f : Flat) (cost : ℕ) : Type 0 where
  pub bounded : cost ≤ bound_of f.layout
  pub in_time : bound_of f.layout < clock
  pub inside : (n : ℕ) → n < cost → (m : ℕ) × (i : ℕ) × ((run f.circuit (flat_start f) n).place ≡ Enter m i)
  pub left : (m i : ℕ) → (run f.circuit (flat_start f) cost).place ≢ Enter m i

abbrev pub BoardsEndInTime : Type 0
BoardsEndInTime = (p : Program) (word : List ℕ) (l : Limits) (f : Flat) → IsFlatOf p word l f → IsAccepted p word l f
    → (cost : ℕ) → HasCost f cost → EndsInTime f cost

-- a circuit whose signal has left by the end port is restored, with the machine's output on tape 3, and has been at
-- one moment more than the quadruple machine makes steps
abbrev pub BoardsAreRestored : Type 0
BoardsAreRestored =
    (p : Program) (word : List ℕ) (l : Limits) (f : Flat) → IsFlatOf p word l f → IsAccepted p word l f → (cost : ℕ)
    → HasCost f cost → IsExit f.layout (run f.circuit (flat_start f) cost).place exit.End
    → (i : ℕ) × (y : List ℕ) × HasOutcome p word l i (outcome.Halted y)
    × SpellsRestored f (run f.circuit (flat_start f) cost).states y
    × (moments f.layout f.circuit cost (flat_start f) ≡ 4 * i + 4 * length y + 6)

-- Backward steps from a run of a circuit lead to a shorter run: after r + s steps, at most the cost, s backward steps
-- lead to the configuration after r steps, also inside a column.
abbrev pub BoardsRunBack : Type 0
BoardsRunBack =
    (p : Program) (word : List ℕ) (l : Limits) (f : Flat) → IsFlatOf p word l f → IsAccepted p word l f
    → (cost s r : ℕ) → HasCost f cost
    → r + s ≤ cost → back f.circuit (run f.circuit (flat_start f) (r + s)) s ≡ run f.circuit (flat_start f) r
