-- Where the run of an assembled network stops, and what its control's `stuck_of` returns there.
use Rattle.std.specs.Prelude.{◌≡◌, ℕ, ◌<◌, List, Some, slice_get}
use Rattle.bn_lists.specs.Runs.{Reaches}
use Rattle.bn_circuits.specs.Situations.{Situation, Turns, IsAtEnd}
use Rattle.bn_circuits.specs.declared.place.Place.TheVariants.{Enter}
use Rattle.bn_machine.specs.Machine.{Program}
use Rattle.bn_machine.specs.Tape.{scanned}
use Rattle.bn_machine.specs.Outcome as outcome
use Rattle.bn_machine.specs.Outcome.{Limits, HasOutcome}
use Rattle.bn_quad.specs.Quadruples.{Configuration, Quadruples, IsQuadMachine}
use Rattle.bn_bennett_laws.specs.Steps.{Stopped}
use Rattle.bn_bennett_laws.specs.declared.name.Name.TheVariants.{Compute}
use Rattle.bn_bennett.specs.Translation.{Translation, IsTranslation, name_of}
use Rattle.bn_network.specs.Controls.{ControlState}
use Rattle.bn_network.specs.Networks.{network_start}
use Rattle.bn_control.specs.Controlled.{Controlled, IsStuckAt}
use Rattle.bn_network_laws.specs.Ends.{EndsBy, IsStoppedAt, tape_of}
use Rattle.bn_network_assembly.specs.Assembled.{Assembled, IsAssembled, network_of}
use Rattle.bn_headline.specs.FlattenLaws.{MayBeAssembled}

-- The signal is at an input port of the control, in a state, both with numbers of the control's machine; and from this
-- pair alone `stuck_of` determines that the machine of quadruples is stuck in state a at symbol c.
pub record IsNamedStop (v : Controlled) (s : Situation) (a c : ℕ) : Type 0 where
  pub number : ℕ
  pub line : ℕ
  pub state : slice_get s.states 0 ≡ Some number
  pub place : s.place ≡ Enter 0 line
  pub state_known : number < v.machine.states
  pub line_known : line < v.machine.lines
  pub stuck : IsStuckAt v number line a c
  pub only : (b d : ℕ) → IsStuckAt v number line b d → (b ≡ a) × (d ≡ c)

-- if an assembled network has ended because the machine is stuck, this names the machine's state and the symbol of the
-- tape that it reads first
abbrev pub StopsAreNamed : Type 0
StopsAreNamed =
    (m : Quadruples) (l : Limits) (word : List ℕ) (names : List ControlState) (a : Assembled) → IsQuadMachine m
    → (is : IsAssembled m l word names a) → (s : Situation) (c : Configuration ℕ) → IsAtEnd (network_of a) s
    → EndsBy m l names s c Stopped
    → (t : ℕ) × IsStoppedAt m c t × IsNamedStop is.control s c.state (scanned (tape_of c t))

-- a pair of which it says so is one where no move leads on
abbrev pub NamedStopsAreEnds : Type 0
NamedStopsAreEnds =
    (m : Quadruples) (l : Limits) (word : List ℕ) (names : List ControlState) (a : Assembled)
    → (is : IsAssembled m l word names a) → (s : Situation) (b c : ℕ) → IsNamedStop is.control s b c
    → IsAtEnd (network_of a) s

-- If the one-tape machine's own run is stuck in state j at symbol c, the network that is assembled for its translation
-- runs from its start to a pair of which it says: stuck in the state that computes in j, at c.
abbrev pub StuckRunsAreNamed : Type 0
StuckRunsAreNamed =
    (p : Program) (l : Limits) (word : List ℕ) (t : Translation) (names : List ControlState) (a : Assembled)
    → MayBeAssembled p l word → IsTranslation p t → (is : IsAssembled t.machine l word names a)
    → (i j c : ℕ) → HasOutcome p word l i (outcome.Stuck j c)
    → (n : ℕ) × (s : Situation) × (q : ℕ) × Reaches (Turns (network_of a)) n (network_start t.machine l word) s
    × IsAtEnd (network_of a) s × (name_of t q ≡ Compute j) × IsNamedStop is.control s q c
