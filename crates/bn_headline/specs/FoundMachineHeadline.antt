-- The headline of the automatic window by the machine alone: `run` with `auto` prints the window that the machine's own
-- bounded runs name, and then what its run in this window names (Bennett 1973 for the machine; window and text are this
-- project's own profile).
use Rattle.std.specs.Prelude.{◌≡◌, ℕ, ◌<◌, ◌≤◌, List, ◌++◌, length, Option}
use Rattle.bn_io.specs.Told.{Grows}
use Rattle.bn_lists.specs.Runs.{Reaches}
use Rattle.bn_machine.specs.Machine.{Program}
use Rattle.bn_machine.specs.Outcome.{Limits, Outcome, Outside, HasOutcome}
use Rattle.bn_machine.specs.declared.quint.Side.{Side}
use Rattle.bn_circuits.specs.declared.net.TheConstants.{MOST_ELEMENTS}
use Rattle.bn_table.specs.Rows.{Named}
use Rattle.bn_network_assembly.specs.Widening.{first_window, widened}
use Rattle.bn_reply.specs.declared.limits.TheConstants.{MOST_INPUT_BYTES}
use Rattle.bn_reply.specs.declared.status.Status.{Status}
use Rattle.bn_reply.specs.declared.status.Status.TheVariants.{Size}
use Rattle.bn_reply_relations.specs.Windows.{large_line}
use Rattle.bn_headline.specs.AutoReply.{found_line}
use Rattle.bn_headline.specs.FoundHeadline.{IsWordGiven, auto_words}
use Rattle.bn_headline.specs.Elements.{elements, most_steps}
use Rattle.bn_headline.specs.MachineHeadline.{TellsExit, TookRun, least_steps}

-- One round of the search leads from w to v: the circuit in w is not too large, the machine's own bounded run in w has
-- no room at an end of a tape, and v has the number of this end doubled.
pub record WidensTo (p : Program) (word : List ℕ) (w v : Limits) : Type 0 where
  pub few : elements p w ≤ MOST_ELEMENTS
  pub time : ℕ
  pub tape : ℕ
  pub side : Side
  pub outside : HasOutcome p word w time (Outside tape side)
  pub next : v ≡ widened w tape side

-- the bounded run halts or is stuck
abbrev pub EndsInside : Outcome → Type 0
EndsInside (Outside tape side) = ⊥
EndsInside _ = Unit {0}

-- The line of the window, followed by the report of a signal that left after this many steps by the exit that the
-- outcome of the bounded run in this window names.
pub record TellsFoundExit (t : Named) (w : Limits) (symbols : List ℕ) (i : ℕ) (o : Outcome) (cost : ℕ)
    (status : Status) (text : List ℕ) : Type 0 where
  pub ran : List ℕ
  pub text_is : text ≡ found_line w ++ ran
  pub exit : TellsExit t w symbols i o cost status ran

-- The search ends at w. A circuit that is too large is refused with the number of its elements; otherwise, if the
-- bounded run halts or is stuck, the sink received the report, and the signal makes as many element steps as two bounds
-- by the machine allow.
pub record TookFound (t : Named) (w : Limits) (symbols : List ℕ) (status : Status) (taken took : Option (List ℕ)) :
    Type 0 where
  pub large : MOST_ELEMENTS < elements t.machine w
      → (status ≡ Size) × Grows taken took (large_line (elements t.machine w))
  pub runs : elements t.machine w ≤ MOST_ELEMENTS
      → (i : ℕ) (o : Outcome) → HasOutcome t.machine symbols w i o → EndsInside o
      → TookRun (TellsFoundExit t w symbols i o) (least_steps i o) (most_steps t.machine w) status taken took

-- For every word in the arguments, on an input within the limit: for every window that the search reaches from the
-- first one.
unfoldable pub FoundMachineHeadline : List (List ℕ) → List ℕ → Status → Option (List ℕ) → Option (List ℕ) → Type 0
FoundMachineHeadline words bytes status taken took =
    length bytes ≤ MOST_INPUT_BYTES → (letters : List ℕ) → words ≡ auto_words letters
    → (t : Named) (symbols : List ℕ) → IsWordGiven bytes letters t symbols
    → (n : ℕ) (w : Limits) → Reaches (WidensTo t.machine symbols) n (first_window symbols) w
    → TookFound t w symbols status taken took
