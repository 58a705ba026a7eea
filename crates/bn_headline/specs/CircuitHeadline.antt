-- The headline by the circuit, beside that by the machine alone: the signal leaves the circuit in exactly its cost by
-- the exit that the text reports, and steps back restore the start.
use Rattle.std.specs.Prelude.{ℕ, ◌≤◌, List, length, Option}
use Rattle.bn_machine.specs.Outcome.{Limits, Outcome}
use Rattle.bn_table.specs.Rows.{Named}
use Rattle.bn_boards.specs.Flats.{Flat}
use Rattle.bn_reply.specs.declared.limits.TheConstants.{MOST_INPUT_BYTES}
use Rattle.bn_reply.specs.declared.status.Status.{Status}
use Rattle.bn_reply_relations.specs.ToldRuns.{AsksRun, ComesOutOn, TookOutcome}
use Rattle.bn_reply_relations.specs.Windows.{ComesTo}
use Rattle.bn_headline.specs.HeadlineLaws.{RunsBack}

-- If the arguments ask for a run whose circuit is not too large, the text reports the run of the circuit, which leaves
-- by the exit of the outcome in exactly its cost and is inside before; and as many steps back lead back, from the exit
-- to the start.
unfoldable pub CircuitHeadline : List (List ℕ) → List ℕ → Status → Option (List ℕ) → Option (List ℕ) → Type 0
CircuitHeadline words bytes status taken took =
    length bytes ≤ MOST_INPUT_BYTES
    → (letters : List ℕ) (l : Limits) (given : Option ℕ) → AsksRun words letters l given
    → (t : Named) (symbols : List ℕ) (count i : ℕ) (o : Outcome) → ComesOutOn bytes letters l t symbols count i o
    → TookOutcome given t l symbols count i o status taken took
    × ((f : Flat) → ComesTo t.machine l symbols f → RunsBack f)
