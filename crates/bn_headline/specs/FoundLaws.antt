-- What the answers of `run` with `auto` imply by the machine alone and by the circuit; and the search by the machine
-- alone, which is that of the circuits.
use Rattle.std.specs.Prelude.{ℕ, ◌<◌, ◌≤◌, List, Option, ◌⊎◌}
use Rattle.bn_lists.specs.Runs.{Reaches}
use Rattle.bn_machine.specs.Machine.{Program}
use Rattle.bn_machine.specs.Outcome.{Limits, Outcome, HasOutcome}
use Rattle.bn_circuits.specs.declared.net.TheConstants.{MOST_ELEMENTS}
use Rattle.bn_bennett_laws.specs.Stages.{IsStandardMachine}
use Rattle.bn_table.specs.Rows.{FitsTable}
use Rattle.bn_network_assembly.specs.Widening.{first_window}
use Rattle.bn_reply.specs.declared.status.Status.{Status}
use Rattle.bn_headline.specs.FoundHeadline.{TellsFoundWindow}
use Rattle.bn_headline.specs.Elements.{elements}
use Rattle.bn_headline.specs.FoundCircuitHeadline.{FoundCircuitHeadline}
use Rattle.bn_headline.specs.FoundMachineHeadline.{EndsInside, FoundMachineHeadline, WidensTo}

-- what reports the automatic window reports it by the machine alone, and by the circuit
abbrev pub FoundTellsMachine : Type 0
FoundTellsMachine = (words : List (List ℕ)) (bytes : List ℕ) (status : Status) (taken took : Option (List ℕ))
    → TellsFoundWindow words bytes status taken took
    → FoundMachineHeadline words bytes status taken took × FoundCircuitHeadline words bytes status taken took

-- The search reaches w and ends there: the circuit is too large, or the bounded run halts or is stuck.
pub record EndsAt (p : Program) (word : List ℕ) (n : ℕ) (w : Limits) : Type 0 where
  pub rounds : Reaches (WidensTo p word) n (first_window word) w
  pub ends : (MOST_ELEMENTS < elements p w)
      ⊎ ((elements p w ≤ MOST_ELEMENTS) × ((i : ℕ) × (o : Outcome) × HasOutcome p word w i o × EndsInside o))

-- the search by the machine alone ends, for each machine in standard form that a table may have and each word
abbrev pub OwnSearchEnds : Type 0
OwnSearchEnds = (p : Program) (word : List ℕ) → IsStandardMachine p → FitsTable p
    → (n : ℕ) × (w : Limits) × EndsAt p word n w
