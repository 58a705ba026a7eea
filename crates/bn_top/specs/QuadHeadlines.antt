-- What `inverse`, `build` and `drive` print for a table of quadruples (Bennett 1973 for the quadruples, Morita 2017 for
-- the elements; words, windows and texts are this project's own profile). Each assumes an input within the limit.
use Rattle.std.specs.Prelude.{◌≡◌, ◌↔◌, ℕ, ◌≤◌, List, [], ◌∷◌, length, Option, codes}
use Rattle.bn_lists.specs.Runs.{Reaches}
use Rattle.bn_circuits.specs.declared.place.Place.{Place}
use Rattle.bn_io.specs.Told.{Grows}
use Rattle.bn_machine.specs.Outcome.{Limits}
use Rattle.bn_circuits.specs.declared.net.TheConstants.{MOST_ELEMENTS}
use Rattle.bn_quad.specs.Calls.{IsUniformMachine}
use Rattle.bn_quad.specs.Overlap.{IsDeterministic, IsReversible}
use Rattle.bn_quad.specs.Quadruples.{Configuration, Quadruples, Follows, inverse_of}
use Rattle.bn_qtable.specs.Reading.{ReadsQuadruples}
use Rattle.bn_qtable.specs.Rows.{QuadTable}
use Rattle.bn_qtable.specs.TapeWords.{TapeWords}
use Rattle.bn_renumbering.specs.Renumbering.{ReadsBack}
use Rattle.bn_network.specs.Starts.{words_on}
use Rattle.bn_network_assembly.specs.Assembled.{CountsElements}
use Rattle.bn_reply.specs.declared.limits.TheConstants.{MOST_INPUT_BYTES}
use Rattle.bn_reply.specs.declared.status.Status.{Status}
use Rattle.bn_reply.specs.declared.status.Status.TheVariants.{Done}
use Rattle.bn_reply_machines.specs.InverseReply.{inverse_text}
use Rattle.bn_reply_builds.specs.DriveCircuits.{TellsBoards, TellsRuns}
use Rattle.bn_reply_builds.specs.DriveHeadline.{IsGiven, TellsDriven}
use Rattle.bn_reply_builds.specs.OwnDrives.{HasOwnRun}
use Rattle.bn_words.specs.Requests.{Build, Drive, HasForm}

-- Each step of m is a step of w backward, so n steps are n steps backward; one is deterministic exactly if the other is
-- reversible; and one is uniform exactly if the other is.
pub record TakesBack (m w : Quadruples) : Type 0 where
  pub follows : (n : ℕ) (c d : Configuration ℕ) → Reaches (Follows m.rules) n c d ↔ Reaches (Follows w.rules) n d c
  pub deterministic : IsDeterministic m.rules ↔ IsReversible w.rules
  pub reversible : IsReversible m.rules ↔ IsDeterministic w.rules
  pub uniform : IsUniformMachine m ↔ IsUniformMachine w

-- If the argument is `inverse` and the bytes read as a table of quadruples, the sink received the table of the inverse,
-- which undoes the machine's steps. That text reads as a table again, whose machine is the inverse with its states and
-- symbols renumbered, each name kept.
unfoldable pub InverseCommand : List (List ℕ) → List ℕ → Status → Option (List ℕ) → Option (List ℕ) → Type 0
InverseCommand words bytes status taken took =
    words ≡ codes "inverse" ∷ [] → length bytes ≤ MOST_INPUT_BYTES → (t : QuadTable) → ReadsQuadruples bytes t
    → (status ≡ Done) × Grows taken took (inverse_text t) × TakesBack t.machine (inverse_of t.machine)
    × ((u : QuadTable) × ReadsQuadruples (inverse_text t) u × ReadsBack (inverse_of t.machine) t.names u)

-- If the arguments ask for `drive` with a table of a uniform machine, words and a window, the machine's own run in the
-- window ends, and the sink received the text that reports its end, or that the signal is inside the circuit after the
-- greatest number of element steps.
unfoldable pub DriveHeadline : List (List ℕ) → List ℕ → Status → Option (List ℕ) → Option (List ℕ) → Type 0
DriveHeadline words bytes status taken took =
    (asked : TapeWords) (l : Limits) (most : ℕ) → HasForm words (Drive asked l most) → length bytes ≤ MOST_INPUT_BYTES
    → (t : QuadTable) (one two three : List ℕ) → IsGiven asked bytes l t one two three
    → (run : HasOwnRun t l one two three) × (text : List ℕ) × Grows taken took text
    × TellsDriven most t l run.steps run.last run.exit status text

-- By the circuit: the sink received the text of the run of the machine's circuit, within the greatest number of element
-- steps. That run leaves in exactly its cost by the exit that the machine's own run names, if the clock has room, and
-- as many steps back restore the start.
unfoldable pub DriveCircuitHeadline : List (List ℕ) → List ℕ → Status → Option (List ℕ) → Option (List ℕ) → Type 0
DriveCircuitHeadline words bytes status taken took =
    (asked : TapeWords) (l : Limits) (most : ℕ) → HasForm words (Drive asked l most) → length bytes ≤ MOST_INPUT_BYTES
    → (t : QuadTable) (one two three : List ℕ) → IsGiven asked bytes l t one two three
    → (count : ℕ) → CountsElements t.machine l count → count ≤ MOST_ELEMENTS
    → (text : List ℕ) × (told : List Place) × Grows taken took text
    × TellsRuns most t l (words_on t.machine one two three) status text told

-- If the arguments ask for `build`, the sink received the text of a circuit at its start. The circuit runs in exactly
-- its cost to the exit that the machine's own run in the window names, if the clock has room, and its steps can be
-- undone.
unfoldable pub BuildHeadline : List (List ℕ) → List ℕ → Status → Option (List ℕ) → Option (List ℕ) → Type 0
BuildHeadline words bytes status taken took =
    (asked : TapeWords) (l : Limits) → HasForm words (Build asked l) → length bytes ≤ MOST_INPUT_BYTES
    → (t : QuadTable) (one two three : List ℕ) → IsGiven asked bytes l t one two three
    → (count : ℕ) → CountsElements t.machine l count → count ≤ MOST_ELEMENTS
    → (text : List ℕ) × (told : List Place) × Grows taken took text
    × TellsBoards t l (words_on t.machine one two three) status text told
