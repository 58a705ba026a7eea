-- The headline of the automatic window by the circuit, beside that by the machine alone.
use Rattle.std.specs.Prelude.{◌≡◌, ℕ, ◌≤◌, List, length, Option}
use Rattle.bn_machine.specs.Outcome.{Limits}
use Rattle.bn_table.specs.Rows.{Named}
use Rattle.bn_boards.specs.Flats.{Flat}
use Rattle.bn_reply.specs.declared.limits.TheConstants.{MOST_INPUT_BYTES}
use Rattle.bn_reply.specs.declared.status.Status.{Status}
use Rattle.bn_reply_relations.specs.Windows.{ComesTo}
use Rattle.bn_headline.specs.FoundHeadline.{IsWordGiven, TookFinding, auto_words}
use Rattle.bn_headline.specs.Searches.{Found, HasFinding}
use Rattle.bn_headline.specs.HeadlineLaws.{RunsBack}

-- For every word in the arguments, on an input within the limit, and every window that the search finds: the text
-- reports the run of the circuit in this window, which exists and leaves by the exit of the outcome in exactly its
-- cost; and as many steps back lead back, from the exit to the start.
unfoldable pub FoundCircuitHeadline : List (List ℕ) → List ℕ → Status → Option (List ℕ) → Option (List ℕ) → Type 0
FoundCircuitHeadline words bytes status taken took =
    length bytes ≤ MOST_INPUT_BYTES → (letters : List ℕ) → words ≡ auto_words letters
    → (t : Named) (symbols : List ℕ) → IsWordGiven bytes letters t symbols
    → (n : ℕ) (w : Limits) → HasFinding t.machine symbols n (Found w)
    → TookFinding t symbols (Found w) status taken took
    × ((f : Flat) → ComesTo t.machine w symbols f → RunsBack f)
