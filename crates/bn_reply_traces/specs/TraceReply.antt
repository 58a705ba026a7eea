-- The answer of the command `trace`: each configuration of the run of a table's machine from a word, on a tape without
-- ends (Bennett 1973; the text is this project's own definition).
use Rattle.std.specs.Prelude.{◌≡◌, ℕ, suc, List, [], ◌∷◌, ◌++◌, codes, decimal}
use Rattle.bn_circuits.specs.declared.place.Place.{Place}
use Rattle.bn_machine.specs.Run.{Ending, HasEnding, Halted, Stuck, Running}
use Rattle.bn_table.specs.Rows.{Named}
use Rattle.bn_reply.specs.Answering.{IsSettled}
use Rattle.bn_reply.specs.Lines.{line, running_line}
use Rattle.bn_reply.specs.TableReply.{StandardReplies, WordReplies}
use Rattle.bn_reply.specs.declared.status.Status.{Status}
use Rattle.bn_reply_machines.specs.MachineReply.{ending_status, machine_stuck_line}
use Rattle.bn_reply_traces.specs.MomentText.{AreLines, IsLineAfter}

-- the last line: how the run ends after i steps
abbrev pub outcome_line : Named → ℕ → Ending → List ℕ
outcome_line t i (Halted y) = line (codes "halted " ∷ decimal i ∷ [])
outcome_line t i (Stuck state symbol) = machine_stuck_line t i state symbol
outcome_line t i Running = running_line i

-- The text has a line for each configuration of the run of the table's machine from these symbols, with at most n
-- steps: from the start to the configuration in which it halts, is stuck, or has made n steps. The last line says how
-- the run ends.
pub record TellsTrace (t : Named) (n : ℕ) (symbols : List ℕ) (status : Status) (text : List ℕ)
    (told : List Place) : Type 0 where
  pub steps : ℕ
  pub ending : Ending
  pub comes_out : HasEnding t.machine symbols n steps ending
  pub moments : List ℕ
  pub lines : AreLines (IsLineAfter t symbols) (suc steps) moments
  pub status_is : status ≡ ending_status ending
  pub text_is : text ≡ moments ++ outcome_line t steps ending
  pub silent : told ≡ []

-- The answer of `trace` to a word, a greatest number of steps n, and these bytes. An error of the bytes comes first,
-- then one of the machine, then one of the word.
abbrev pub TraceReplies : List ℕ → ℕ → List ℕ → Status → List ℕ → List Place → Type 0
TraceReplies word n = StandardReplies (λ t. WordReplies (TellsTrace t n) t word)

-- it has exactly one answer to all words, numbers of steps and bytes
abbrev pub TraceIsSettled : Type 0
TraceIsSettled = (word : List ℕ) (n : ℕ) (bytes : List ℕ) → IsSettled (TraceReplies word n bytes)
