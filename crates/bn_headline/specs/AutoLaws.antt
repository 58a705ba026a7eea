-- The statements of this crate's laws on the answers, each a field of `Laws`.
use Rattle.std.specs.Prelude.{◌≡◌, ◌≢◌, ℕ, ◌≤◌, List, [], ◌++◌, length, Option, zero, suc}
use Rattle.bn_io.specs.Told.{Grows}
use Rattle.bn_lists.specs.Runs.{Reaches}
use Rattle.bn_circuits.specs.Stepping.{places}
use Rattle.bn_circuits.specs.declared.place.Place.{Place}
use Rattle.bn_machine.specs.Machine.{Program}
use Rattle.bn_machine.specs.Outcome.{Limits}
use Rattle.bn_table.specs.Rows.{Named}
use Rattle.bn_boards.specs.Flats.{Flat, flat_start}
use Rattle.bn_boards.specs.Costs.{HasCost}
use Rattle.bn_reply.specs.declared.limits.TheConstants.{MOST_INPUT_BYTES}
use Rattle.bn_reply.specs.declared.status.Status.{Status}
use Rattle.bn_reply.specs.declared.status.Status.TheVariants as statuses
use Rattle.bn_reply_relations.specs.Windows.{ComesTo}
use Rattle.bn_network_assembly.specs.Widening.{first_window}
use Rattle.bn_headline.specs.Searches.{Finding, Found, Large, HasFinding, Widens}
use Rattle.bn_headline.specs.AutoReply.{AutoReplies, MakeRounds}
use Rattle.bn_headline.specs.FoundHeadline.{IsWordGiven, TellsFinding, TellsFoundWindow, auto_words}

-- the rounds on the circuits are those of the search by the machine's own bounded runs
abbrev pub RoundsAreTheSearchs : Type 0
RoundsAreTheSearchs =
    (bytes letters : List ℕ) (t : Named) (symbols : List ℕ) → IsWordGiven bytes letters t symbols
    → ((n : ℕ) (w : Limits) (told : List Place) → MakeRounds t.machine symbols n (first_window symbols) w told
    → Reaches (Widens t.machine symbols) n (first_window symbols) w)
    × ((n : ℕ) (w : Limits) → Reaches (Widens t.machine symbols) n (first_window symbols) w
    → (told : List Place) × MakeRounds t.machine symbols n (first_window symbols) w told)

-- whatever rounds are made from the first window on, their places are the first of those in the answer
abbrev pub RoundsBeginAnswers : Type 0
RoundsBeginAnswers =
    (bytes letters : List ℕ) (t : Named) (symbols : List ℕ) (status : Status) (text : List ℕ) (told : List Place)
    → IsWordGiven bytes letters t symbols → AutoReplies letters bytes status text told
    → (n : ℕ) (w : Limits) (front : List Place) → MakeRounds t.machine symbols n (first_window symbols) w front
    → (rest : List Place) × (told ≡ front ++ rest)

-- the answer reports what the search finds
abbrev pub AutosTellFindings : Type 0
AutosTellFindings =
    (bytes letters : List ℕ) (t : Named) (symbols : List ℕ) (status : Status) (text : List ℕ) (told : List Place)
    → IsWordGiven bytes letters t symbols → AutoReplies letters bytes status text told
    → (n : ℕ) (a : Finding) → HasFinding t.machine symbols n a → TellsFinding t symbols a status text

-- for all arguments, the status is neither that of a window nor that of a run cut short
abbrev pub AutosEndInside : Type 0
AutosEndInside =
    (bytes letters : List ℕ) (status : Status) (text : List ℕ) (told : List Place)
    → AutoReplies letters bytes status text told → (status ≢ statuses.Window) × (status ≢ statuses.Inside)

-- ---- the places that are reported to a watch

-- the places are those of the circuit in w, after each number of steps from 1 to its cost
pub record AreOfBoard (p : Program) (symbols : List ℕ) (w : Limits) (told : List Place) : Type 0 where
  pub flat : Flat
  pub comes : ComesTo p w symbols flat
  pub cost : ℕ
  pub has_cost : HasCost flat cost
  pub counted : length told ≡ cost
  pub told_is : told ≡ places flat.circuit cost (flat_start flat)

-- n rounds of the search lead from w to v, and these are the places of each of their circuits in turn
abbrev pub AreOfRounds : Program → List ℕ → ℕ → Limits → Limits → List Place → Type 0
AreOfRounds p symbols zero w v told = (w ≡ v) × (told ≡ [])
AreOfRounds p symbols (suc n) w v told =
    (m : Limits) × (front : List Place) × (rest : List Place) × Widens p symbols w m × AreOfBoard p symbols w front
    × AreOfRounds p symbols n m v rest × (told ≡ front ++ rest)

-- after the rounds: the places of the circuit in the window that is found, and none if the last circuit is too large
abbrev pub AreOfLast : Program → List ℕ → Finding → List Place → Type 0
AreOfLast p symbols (Found w) told = AreOfBoard p symbols w told
AreOfLast p symbols (Large count) told = told ≡ []

-- So the places are those of the circuit in each window of the search in turn, up to the window that is found or to the
-- one before the first whose circuit is too large.
pub record TellsPlaces (p : Program) (symbols : List ℕ) (n : ℕ) (a : Finding) (told : List Place) : Type 0 where
  pub last : Limits
  pub before : List Place
  pub behind : List Place
  pub rounds : AreOfRounds p symbols n (first_window symbols) last before
  pub ends : AreOfLast p symbols a behind
  pub told_is : told ≡ before ++ behind

abbrev pub AutosTellPlaces : Type 0
AutosTellPlaces =
    (bytes letters : List ℕ) (t : Named) (symbols : List ℕ) (status : Status) (text : List ℕ) (told : List Place)
    → IsWordGiven bytes letters t symbols → AutoReplies letters bytes status text told
    → (n : ℕ) (a : Finding) → HasFinding t.machine symbols n a → TellsPlaces t.machine symbols n a told

-- ---- the clause of the top call

-- the sink received the reply to a search that the arguments ask for
abbrev pub TookAuto : List (List ℕ) → List ℕ → Status → Option (List ℕ) → Option (List ℕ) → Type 0
TookAuto words bytes status taken took =
    (letters : List ℕ) → words ≡ auto_words letters → length bytes ≤ MOST_INPUT_BYTES
    → (text : List ℕ) × (told : List Place) × AutoReplies letters bytes status text told × Grows taken took text

-- an answer that was given whole implies the headline
abbrev pub AnswersTellFoundWindow : Type 0
AnswersTellFoundWindow =
    (words : List (List ℕ)) (bytes : List ℕ) (status : Status) (taken took : Option (List ℕ))
    → TookAuto words bytes status taken took → TellsFoundWindow words bytes status taken took
