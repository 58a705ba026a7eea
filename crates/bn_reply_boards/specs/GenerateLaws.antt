-- The statements of this crate's laws, each a field of `Laws`.
use Rattle.std.specs.Prelude.{◌≡◌, ℕ, List, ◌++◌}
use Rattle.bn_circuits.specs.declared.place.Place.{Place}
use Rattle.bn_machine.specs.Outcome.{Outcome}
use Rattle.bn_boards.specs.Boards.{size}
use Rattle.bn_boards.specs.Flats.{Flat}
use Rattle.bn_boards.specs.BoardRuns.{RunsToExit}
use Rattle.bn_gen.specs.Increments.{IsRoundCount, incrementer}
use Rattle.bn_gen.specs.Text.{increments_table, increments_text}
use Rattle.bn_reply.specs.Answering.{IsSettled}
use Rattle.bn_reply.specs.declared.status.Status.{Status}
use Rattle.bn_reply_relations.specs.Windows.{ComesTo}
use Rattle.bn_reply_relations.specs.ToldRuns.{ComesOutOn, IsGiven, TellsOutcome}
use Rattle.bn_reply_boards.specs.GenerateReply.{GenerateReplies, digits, number, title, window}

-- for each number of increments, `generate` has exactly one answer
abbrev pub GenerateIsSettled : Type 0
GenerateIsSettled = (k : ℕ) → IsRoundCount k → IsSettled (GenerateReplies k)

-- the text whose run it reports is that of the machine of k increments, in standard form, and the number is a word of
-- its letters
abbrev pub GeneratedTablesAreGiven : Type 0
GeneratedTablesAreGiven =
    (k : ℕ) → IsRoundCount k → IsGiven (increments_text k) number (window k) (increments_table k) digits

-- The text reports the run of the machine of k increments: whatever the outcome of its own bounded run, the signal
-- leaves in exactly its cost by the exit of this outcome on every circuit of the machine, the number and the window,
-- and the text after the first line reports this.
pub record TellsGenerated (k : ℕ) (status : Status) (text : List ℕ) : Type 0 where
  pub ran : List ℕ
  pub text_is : text ≡ title k ++ ran
  pub counted : (count i : ℕ) (o : Outcome)
      → ComesOutOn (increments_text k) number (window k) (increments_table k) digits count i o
      → (f : Flat) → ComesTo (incrementer k) (window k) digits f → size f.network.tables ≡ count
  pub runs : (count i : ℕ) (o : Outcome)
      → ComesOutOn (increments_text k) number (window k) (increments_table k) digits count i o
      → (f : Flat) → ComesTo (incrementer k) (window k) digits f → RunsToExit (incrementer k) f i o
  pub tells : (count i : ℕ) (o : Outcome)
      → ComesOutOn (increments_text k) number (window k) (increments_table k) digits count i o
      → (f : Flat) → ComesTo (incrementer k) (window k) digits f
      → TellsOutcome (increments_table k) (window k) digits f i o status ran

-- the answer of `generate` reports the outcome of the machine's own bounded run
abbrev pub GeneratedRunsTellOutcomes : Type 0
GeneratedRunsTellOutcomes =
    (k : ℕ) (status : Status) (text : List ℕ) (told : List Place) → IsRoundCount k
    → GenerateReplies k status text told → TellsGenerated k status text
