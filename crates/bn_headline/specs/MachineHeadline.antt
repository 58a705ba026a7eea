-- The headline by the machine alone: what `run` prints for a machine, a word and a window is what the machine's own
-- bounded run names (Bennett 1973 for the machine; window and text are this project's own profile).
use Rattle.std.specs.Prelude.{◌≡◌, ℕ, ◌+◌, ◌*◌, ◌<◌, ◌≤◌, List, [], ◌∷◌, ◌++◌, length, Option, codes, decimal}
use Rattle.bn_base.specs.Number.{greatest}
use Rattle.bn_io.specs.Told.{Grows}
use Rattle.bn_circuits.specs.declared.line.Line.{Line}
use Rattle.bn_machine.specs.Tape.{Tape, blank_tape, word_tape}
use Rattle.bn_machine.specs.Machine.{Program}
use Rattle.bn_machine.specs.Outcome.{Limits, Outcome, Halted, HasOutcome}
use Rattle.bn_circuits.specs.declared.net.TheConstants.{MOST_ELEMENTS}
use Rattle.bn_netlist_laws.specs.Sentences.{line_text}
use Rattle.bn_table.specs.Rows.{Named}
use Rattle.bn_boards.specs.declared.spelled.SpelledTape.{SpelledTape}
use Rattle.bn_boards.specs.Spans.{Spans}
use Rattle.bn_boards.specs.BoardRuns.{HasEndTapes}
use Rattle.bn_reply.specs.Lines.{line}
use Rattle.bn_reply.specs.declared.limits.TheConstants.{MOST_INPUT_BYTES}
use Rattle.bn_reply.specs.declared.status.Status.{Status}
use Rattle.bn_reply.specs.declared.status.Status.TheVariants.{Size, Inside}
use Rattle.bn_reply_relations.specs.Windows.{large_line}
use Rattle.bn_reply_relations.specs.RunText.{elements_line, output_line, quadruple_line, steps_line, tape_line}
use Rattle.bn_reply_relations.specs.RunText.{tapes_text}
use Rattle.bn_reply_relations.specs.ToldRuns.{IsGiven, outcome_line, outcome_status, run_words}
use Rattle.bn_headline.specs.Elements.{elements, most_steps}

-- ---- what the machine does

-- The bytes read as a table whose machine is in standard form, the word is made of its letters and fits the window, the
-- limits are within their bounds, and after i steps the machine's own run from the word in that window has this
-- outcome.
pub record IsOwnRun (bytes word : List ℕ) (l : Limits) (t : Named) (symbols : List ℕ) (i : ℕ) (o : Outcome) :
    Type 0 where
  pub given : IsGiven bytes word l t symbols
  pub fits : length symbols ≤ l.right
  pub outcome : HasOutcome t.machine symbols l i o

-- ---- what is printed

-- Three lines, one for each tape of the window, and nothing else; the symbols of the history are the blank and one for
-- each quintuple.
abbrev pub AreTapes : Named → Limits → List ℕ → Type 0
AreTapes t l text = (one : SpelledTape) × (two : SpelledTape) × (three : SpelledTape)
    × Spans l.left l.right t.machine.symbols one × Spans 0 l.steps (length t.machine.quints + 1) two
    × Spans 0 l.output t.machine.symbols three × (text ≡ tape_line t 1 one ++ tape_line t 2 two ++ tape_line t 3 three)

-- The lines after that of the steps. If the machine halts after i steps with the output y, they are 4i + 4L + 5 steps
-- of the reversible machine, for the L letters of y; the word again on tape 1, a blank history, y alone on tape 3, each
-- head at cell 0; and the output. If it is stuck or has no room, they are the tapes then.
abbrev pub AreLastLines : Named → Limits → List ℕ → ℕ → Outcome → List ℕ → Type 0
AreLastLines t l symbols i (Halted y) text =
    text ≡ quadruple_line (4 * i + 4 * length y + 5)
    ++ (tapes_text t l (word_tape symbols, blank_tape, word_tape y) ++ output_line t y)
AreLastLines t l symbols i o text =
    (x : Tape × Tape × Tape) × HasEndTapes t.machine symbols l i o x × (text ≡ tapes_text t l x)

-- The signal makes at least this many element steps: if the machine halts, one for each step of the reversible machine;
-- otherwise at least 0, which says nothing.
abbrev pub least_steps : ℕ → Outcome → ℕ
least_steps i (Halted y) = 4 * i + 4 * length y + 5
least_steps i _ = 0

-- The text and the status of a signal that left after this many steps by the exit that the outcome names.
pub record TellsExit (t : Named) (l : Limits) (symbols : List ℕ) (i : ℕ) (o : Outcome) (cost : ℕ) (status : Status)
    (text : List ℕ) : Type 0 where
  pub last : List ℕ
  pub last_lines : AreLastLines t l symbols i o last
  pub text_is : text ≡ elements_line (elements t.machine l) ++ (outcome_line t o ++ (steps_line cost ++ last))
  pub status_is : status ≡ outcome_status o

-- The text and the status of a signal that is still inside after e steps: about to enter one of the four ports of one
-- of the elements. Which one it is, is left open here, and so is what the three tapes show.
pub record TellsInside (t : Named) (l : Limits) (e : ℕ) (status : Status) (text : List ℕ) : Type 0 where
  pub place : Line
  pub element : place.element < elements t.machine l
  pub side : place.line < 4
  pub last : List ℕ
  pub last_lines : AreTapes t l last
  pub text_is : text ≡ elements_line (elements t.machine l) ++ (line (codes "inside " ∷ line_text place ∷ [])
      ++ (steps_line e ++ last))
  pub status_is : status ≡ Inside

-- With a greatest number e of steps: the exit, if the signal reaches it in e steps, and otherwise where it is then.
pub record TellsExitWithin (e : ℕ) (t : Named) (l : Limits) (symbols : List ℕ) (i : ℕ) (o : Outcome) (cost : ℕ)
    (status : Status) (text : List ℕ) : Type 0 where
  pub ended : cost ≤ e → TellsExit t l symbols i o cost status text
  pub inside : e < cost → TellsInside t l e status text

-- ---- what the sink took

-- The sink received a text, and it and the status report the run of a signal that makes `cost` element steps to its
-- exit, from `fewest` to `most`.
pub record TookRun (tells : ℕ → Status → List ℕ → Type 0) (fewest most : ℕ) (status : Status)
    (taken took : Option (List ℕ)) : Type 0 where
  pub cost : ℕ
  pub above : fewest ≤ cost
  pub below : cost ≤ most
  pub text : List ℕ
  pub told : tells cost status text
  pub grows : Grows taken took text

-- A circuit with too many elements is refused with their number and the status of a size; any other is run, and
-- reported as `tells` says.
pub record TookAnswer (tells : ℕ → Status → List ℕ → Type 0) (p : Program) (l : Limits) (i : ℕ) (o : Outcome)
    (status : Status) (taken took : Option (List ℕ)) : Type 0 where
  pub large : MOST_ELEMENTS < elements p l → (status ≡ Size) × Grows taken took (large_line (elements p l))
  pub runs : elements p l ≤ MOST_ELEMENTS → TookRun tells (least_steps i o) (most_steps p l) status taken took

-- ---- the headline

-- If the arguments are `run`, a word and four limits, and the bytes are within the limit of an input, then however the
-- machine's own bounded run ends, the answer reports it.
unfoldable pub MachineHeadline : List (List ℕ) → List ℕ → Status → Option (List ℕ) → Option (List ℕ) → Type 0
MachineHeadline words bytes status taken took =
    (word : List ℕ) (l : Limits) → words ≡ run_words word l [] → length bytes ≤ MOST_INPUT_BYTES
    → (t : Named) (symbols : List ℕ) (i : ℕ) (o : Outcome) → IsOwnRun bytes word l t symbols i o
    → TookAnswer (TellsExit t l symbols i o) t.machine l i o status taken took

-- If the arguments are `run`, a word, four limits and a greatest number e of element steps within its bound, and the
-- bytes are within the limit of an input, the answer reports how the machine's own bounded run ends if the signal
-- reaches its exit in e steps or fewer, and otherwise where it is after e steps.
unfoldable pub MachineHeadlineWithin : List (List ℕ) → List ℕ → Status → Option (List ℕ) → Option (List ℕ) → Type 0
MachineHeadlineWithin words bytes status taken took =
    (word : List ℕ) (l : Limits) (e : ℕ) → words ≡ run_words word l (decimal e ∷ []) → e ≤ greatest
    → length bytes ≤ MOST_INPUT_BYTES
    → (t : Named) (symbols : List ℕ) (i : ℕ) (o : Outcome) → IsOwnRun bytes word l t symbols i o
    → TookAnswer (TellsExitWithin e t l symbols i o) t.machine l i o status taken took
