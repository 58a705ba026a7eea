-- What the answer to a search for a window reports of it.
use Rattle.std.specs.Prelude.{ℕ, List, Option}
use Rattle.bn_circuits.specs.declared.place.Place.{Place}
use Rattle.bn_circuits.specs.Watching.{Hears}
use Rattle.bn_table.specs.Rows.{Named}
use Rattle.bn_reply.specs.declared.status.Status.{Status}
use Rattle.bn_headline.specs.Searches.{Finding, HasFinding}
use Rattle.bn_headline.specs.AutoLaws.{TellsPlaces}
use Rattle.bn_headline.specs.FoundHeadline.{IsWordGiven, TellsFinding}

-- Whatever the search by the machine's own bounded runs finds for the table and the word, the answer reports it.
abbrev pub TellsSearch : List ℕ → List ℕ → Status → List ℕ → Type 0
TellsSearch bytes letters status text =
    (t : Named) (symbols : List ℕ) → IsWordGiven bytes letters t symbols
    → (n : ℕ) (a : Finding) → HasFinding t.machine symbols n a → TellsFinding t symbols a status text

-- and a watch has heard the places of the circuit in each window of the search in turn, up to its cost
abbrev pub HearsSearch : List ℕ → List ℕ → Option (List Place) → Option (List Place) → Type 0
HearsSearch bytes letters told heard =
    (t : Named) (symbols : List ℕ) → IsWordGiven bytes letters t symbols
    → (n : ℕ) (a : Finding) → HasFinding t.machine symbols n a
    → (places : List Place) × TellsPlaces t.machine symbols n a places × Hears told places heard
