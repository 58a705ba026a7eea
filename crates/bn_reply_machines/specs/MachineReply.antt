-- The answer of the command `machine`: the run of a table's machine from a word, on a tape without ends (Bennett 1973;
-- the reading of the output and the texts are this project's own definitions).
use Rattle.std.specs.Prelude.{◌≡◌, ℕ, List, [], ◌∷◌, ◌++◌, slice_index_or, codes, decimal}
use Rattle.bn_circuits.specs.declared.place.Place.{Place}
use Rattle.bn_machine.specs.Run.{Ending, HasEnding, Halted, Stuck, Running}
use Rattle.bn_table.specs.Rows.{Named}
use Rattle.bn_reply.specs.Answering.{IsSettled}
use Rattle.bn_reply.specs.Lines.{line}
use Rattle.bn_reply.specs.TableReply.{StandardReplies, WordReplies}
use Rattle.bn_reply.specs.Words.{letters_of}
use Rattle.bn_reply.specs.declared.status.Status.{Status}
use Rattle.bn_reply.specs.declared.status.Status.TheVariants as statuses
use Rattle.bn_reply.specs.Lines.{running_line}

-- the lines of a run that halts after i steps with this output; of one that is stuck after i steps in this state at
-- this symbol; and of one that has made all n steps
abbrev pub halted_lines : Named → ℕ → List ℕ → List ℕ
halted_lines t i output = line (codes "halted " ∷ decimal i ∷ []) ++ line (codes "output =" ∷ letters_of t output ∷ [])

abbrev pub machine_stuck_line : Named → ℕ → ℕ → ℕ → List ℕ
machine_stuck_line t i state symbol = line (codes "stuck " ∷ slice_index_or t.names state [] ∷ codes " " ∷ letters_of t
    (symbol ∷ []) ∷ codes " " ∷ decimal i ∷ [])

-- the status and the text of a run with this result after i steps
abbrev pub ending_status : Ending → Status
ending_status (Halted y) = statuses.Done
ending_status (Stuck state symbol) = statuses.Stuck
ending_status Running = statuses.Inside

abbrev pub ending_text : Named → ℕ → Ending → List ℕ
ending_text t i (Halted y) = halted_lines t i y
ending_text t i (Stuck state symbol) = machine_stuck_line t i state symbol
ending_text t i Running = running_line i

-- The text has the result of the run of the table's machine from these symbols, with at most n steps.
pub record TellsMachineRun (t : Named) (n : ℕ) (symbols : List ℕ) (status : Status) (text : List ℕ)
    (told : List Place) : Type 0 where
  pub steps : ℕ
  pub ending : Ending
  pub comes_out : HasEnding t.machine symbols n steps ending
  pub status_is : status ≡ ending_status ending
  pub text_is : text ≡ ending_text t steps ending
  pub silent : told ≡ []

-- The answer of `machine` to a word, a greatest number of steps n, and these bytes. An error of the bytes comes first,
-- then one of the machine, then one of the word.
abbrev pub MachineReplies : List ℕ → ℕ → List ℕ → Status → List ℕ → List Place → Type 0
MachineReplies word n = StandardReplies (λ t. WordReplies (TellsMachineRun t n) t word)

-- it has exactly one answer to all words, numbers of steps and bytes
abbrev pub MachineIsSettled : Type 0
MachineIsSettled = (word : List ℕ) (n : ℕ) (bytes : List ℕ) → IsSettled (MachineReplies word n bytes)
