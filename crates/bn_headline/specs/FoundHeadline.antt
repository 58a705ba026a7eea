-- The headline of the automatic window: the sink receives the window that the machine's own bounded runs name, and then
-- the text that its run in this window names.
use Rattle.std.specs.Prelude.{◌≡◌, ◌≢◌, ℕ, ◌≤◌, List, [], ◌∷◌, ◌++◌, length, Option, codes}
use Rattle.bn_base.specs.declared.limits.TheConstants.{MOST_COUNT}
use Rattle.bn_io.specs.Told.{Grows}
use Rattle.bn_machine.specs.Outcome.{Limits, Outcome, HasOutcome}
use Rattle.bn_table.specs.Rows.{Named}
use Rattle.bn_boards.specs.Boards.{size}
use Rattle.bn_boards.specs.Flats.{Flat}
use Rattle.bn_boards.specs.BoardRuns.{RunsToExit}
use Rattle.bn_reply.specs.TableReply.{ReadsStandard}
use Rattle.bn_reply.specs.Words.{IsSpelledBy}
use Rattle.bn_reply.specs.declared.limits.TheConstants.{MOST_INPUT_BYTES}
use Rattle.bn_reply.specs.declared.status.Status.{Status}
use Rattle.bn_reply.specs.declared.status.Status.TheVariants as statuses
use Rattle.bn_reply_relations.specs.Windows.{ComesTo, CountsElements, large_line}
use Rattle.bn_reply_relations.specs.ToldRuns.{TellsOutcome}
use Rattle.bn_headline.specs.Searches.{Finding, Found, HasFinding, Large}
use Rattle.bn_headline.specs.AutoReply.{found_line}

-- the arguments are `run`, a word after the byte `=`, and `auto`
abbrev pub auto_words : List ℕ → List (List ℕ)
auto_words letters = codes "run" ∷ (61 ∷ letters) ∷ codes "auto" ∷ []

-- the bytes read as a table whose machine is in standard form, the letters are a word of these symbols, and there are
-- at most as many as a word may have
pub record IsWordGiven (bytes letters : List ℕ) (t : Named) (symbols : List ℕ) : Type 0 where
  pub reads : ReadsStandard bytes t
  pub spelled : IsSpelledBy t letters symbols
  pub few : length symbols ≤ MOST_COUNT

-- If w is found, the text is the line of w, and then what the outcome of the machine's own bounded run in w names: the
-- machine, the word and w have a circuit; and the signal of each of their circuits leaves in exactly its cost by the
-- exit of this outcome, and the text reports this. The status is neither that of a window nor that of a run cut short.
pub record TellsFound (t : Named) (symbols : List ℕ) (w : Limits) (status : Status) (text : List ℕ) : Type 0 where
  pub ran : List ℕ
  pub text_is : text ≡ found_line w ++ ran
  pub flat : Flat
  pub comes : ComesTo t.machine w symbols flat
  pub counted : (count : ℕ) → CountsElements t.machine w count → (f : Flat) → ComesTo t.machine w symbols f
      → size f.network.tables ≡ count
  pub runs : (i : ℕ) (o : Outcome) → HasOutcome t.machine symbols w i o → (f : Flat) → ComesTo t.machine w symbols f
      → RunsToExit t.machine f i o
  pub tells : (i : ℕ) (o : Outcome) → HasOutcome t.machine symbols w i o → (f : Flat) → ComesTo t.machine w symbols f
      → TellsOutcome t w symbols f i o status ran
  pub no_window : status ≢ statuses.Window
  pub not_inside : status ≢ statuses.Inside

-- if the search finds a circuit that is too large, the text is the line of its elements
abbrev pub TellsFinding : Named → List ℕ → Finding → Status → List ℕ → Type 0
TellsFinding t symbols (Found w) status text = TellsFound t symbols w status text
TellsFinding t symbols (Large count) status text = (text ≡ large_line count) × (status ≡ statuses.Size)

-- the sink received a text that reports what the search found
abbrev pub TookFinding : Named → List ℕ → Finding → Status → Option (List ℕ) → Option (List ℕ) → Type 0
TookFinding t symbols a status taken took =
    (text : List ℕ) × Grows taken took text × TellsFinding t symbols a status text

-- For every word in the arguments, on an input within the limit: whatever the search by the machine's own bounded runs
-- finds.
abbrev pub TellsFoundWindow : List (List ℕ) → List ℕ → Status → Option (List ℕ) → Option (List ℕ) → Type 0
TellsFoundWindow words bytes status taken took =
    length bytes ≤ MOST_INPUT_BYTES → (letters : List ℕ) → words ≡ auto_words letters
    → (t : Named) (symbols : List ℕ) → IsWordGiven bytes letters t symbols
    → (n : ℕ) (a : Finding) → HasFinding t.machine symbols n a → TookFinding t symbols a status taken took
