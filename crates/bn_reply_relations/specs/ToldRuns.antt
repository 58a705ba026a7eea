-- The headline: for arguments that ask for a run of a circuit, the sink receives the text that the machine's own
-- bounded run names (Bennett 1973 for the machine; circuit, window and text are this project's own profile).
use Rattle.std.specs.Prelude.{◌≡◌, ◌↔◌, ℕ, ◌+◌, ◌*◌, ◌<◌, ◌≤◌, List, [], ◌∷◌, ◌++◌, length, Option, Some, None}
use Rattle.std.specs.Prelude.{codes, decimal, slice_index_or}
use Rattle.bn_base.specs.Number.{greatest}
use Rattle.bn_io.specs.Told.{Grows}
use Rattle.bn_machine.specs.Tape.{word_tape, blank_tape}
use Rattle.bn_machine.specs.Outcome as outcome
use Rattle.bn_machine.specs.Outcome.{Limits, Outcome, HasOutcome}
use Rattle.bn_circuits.specs.declared.net.TheConstants.{MOST_ELEMENTS}
use Rattle.bn_table.specs.Rows.{Named}
use Rattle.bn_boards.specs.Boards.{size}
use Rattle.bn_boards.specs.declared.exit.Exit.TheVariants as exit
use Rattle.bn_boards.specs.Flats.{Flat}
use Rattle.bn_boards.specs.Costs.{HasCost, bound_of}
use Rattle.bn_boards.specs.BoardRuns.{RunsToExit}
use Rattle.bn_reply.specs.Lines.{line}
use Rattle.bn_reply.specs.TableReply.{ReadsStandard}
use Rattle.bn_reply.specs.Words.{IsSpelledBy}
use Rattle.bn_reply.specs.declared.status.Status.{Status}
use Rattle.bn_reply.specs.declared.status.Status.TheVariants as statuses
use Rattle.bn_network.specs.Limits.{AreSmall}
use Rattle.bn_reply_relations.specs.Windows.{ComesTo, CountsElements}
use Rattle.bn_reply_relations.specs.RunText.{elements_line, output_line, quadruple_line, run_text, shown_lines}
use Rattle.bn_reply_relations.specs.RunText.{steps_line, stuck_line, tapes_text, window_line}
use Rattle.bn_reply_relations.specs.RunReply.{board_after}
use Rattle.bn_reply.specs.declared.limits.TheConstants.{MOST_INPUT_BYTES}

-- ---- what an outcome names

-- the exit line of an outcome
abbrev pub outcome_line : Named → Outcome → List ℕ
outcome_line t (outcome.Halted y) = line (codes "exit end" ∷ [])
outcome_line t (outcome.Stuck j c) = stuck_line t (slice_index_or t.names j []) c
outcome_line t (outcome.Outside n s) = window_line n s

-- the status of an outcome
abbrev pub outcome_status : Outcome → Status
outcome_status (outcome.Halted y) = statuses.Done
outcome_status (outcome.Stuck j c) = statuses.Stuck
outcome_status (outcome.Outside n s) = statuses.Window

-- The lines after that of the steps, if the machine's run makes i steps. If it halts, the outcome alone determines
-- them: Bennett's number of steps, the word on tape 1 again, a blank history, the output alone on tape 3, all heads at
-- 0, and the output. Otherwise they are what the cells show.
abbrev pub outcome_rest : Named → Limits → List ℕ → Flat → ℕ → ℕ → Outcome → List ℕ
outcome_rest t l symbols f cost i (outcome.Halted y) =
    quadruple_line (4 * i + 4 * length y + 5)
    ++ (tapes_text t l (word_tape symbols, blank_tape, word_tape y) ++ output_line t y)
outcome_rest t l symbols f cost i _ = shown_lines t f (board_after f cost).states

-- The text and the status are those of the outcome, and the steps are the circuit's cost, which is within its bound.
pub record TellsOutcome (t : Named) (l : Limits) (symbols : List ℕ) (f : Flat) (i : ℕ) (o : Outcome) (status : Status)
    (text : List ℕ) : Type 0 where
  pub cost : ℕ
  pub has_cost : HasCost f cost
  pub bounded : cost ≤ bound_of f.layout
  pub status_is : status ≡ outcome_status o
  pub text_is : text ≡ elements_line (size f.network.tables) ++ (outcome_line t o
      ++ (steps_line cost ++ outcome_rest t l symbols f cost i o))

-- With a greatest number of steps: the status is `Inside` exactly if that is below the cost, and then the text is that
-- of the circuit after this many steps; otherwise the outcome is reported.
pub record TellsWithin (e : ℕ) (t : Named) (l : Limits) (symbols : List ℕ) (f : Flat) (i : ℕ) (o : Outcome)
    (status : Status) (text : List ℕ) : Type 0 where
  pub cost : ℕ
  pub has_cost : HasCost f cost
  pub inside : (status ≡ statuses.Inside) ↔ (e < cost)
  pub begun : e < cost → text ≡ run_text t f (board_after f e) 0 exit.Inside
  pub ended : cost ≤ e → TellsOutcome t l symbols f i o status text

abbrev pub Tells : Option ℕ → Named → Limits → List ℕ → Flat → ℕ → Outcome → Status → List ℕ → Type 0
Tells None = TellsOutcome
Tells (Some e) = TellsWithin e

-- ---- what is asked

-- the arguments `run`, a word after the byte `=`, four limits in decimal digits, and whatever arguments follow them
abbrev pub run_words : List ℕ → Limits → List (List ℕ) → List (List ℕ)
run_words letters l rest =
    codes "run" ∷ (61 ∷ letters) ∷ decimal l.left ∷ decimal l.right ∷ decimal l.steps ∷ decimal l.output ∷ rest

-- the arguments ask for a run: after the limits follows nothing, or a greatest number of steps, which is at most 2^62
abbrev pub AsksRun : List (List ℕ) → List ℕ → Limits → Option ℕ → Type 0
AsksRun words letters l None = words ≡ run_words letters l []
AsksRun words letters l (Some e) = (words ≡ run_words letters l (decimal e ∷ [])) × (e ≤ greatest)

-- the bytes read as a table whose machine is in standard form, the letters are a word of these symbols, and the limits
-- are within their bounds
pub record IsGiven (bytes letters : List ℕ) (l : Limits) (t : Named) (symbols : List ℕ) : Type 0 where
  pub reads : ReadsStandard bytes t
  pub spelled : IsSpelledBy t letters symbols
  pub small : AreSmall l

-- besides, the word fits, the circuit has this many elements, which are not too many, and after i steps the machine's
-- own bounded run has this outcome
pub record ComesOutOn (bytes letters : List ℕ) (l : Limits) (t : Named) (symbols : List ℕ) (count i : ℕ)
    (o : Outcome) : Type 0 where
  pub given : IsGiven bytes letters l t symbols
  pub fits : length symbols ≤ l.right
  pub counts : CountsElements t.machine l count
  pub few : count ≤ MOST_ELEMENTS
  pub outcome : HasOutcome t.machine symbols l i o

-- ---- the headline

-- The sink received a text. The machine, the word and the limits have a circuit; and in each of their circuits, which
-- has this many elements, the signal leaves in exactly its cost by the exit of this outcome, which the text reports.
pub record TookOutcome (given : Option ℕ) (t : Named) (l : Limits) (symbols : List ℕ) (count i : ℕ) (o : Outcome)
    (status : Status) (taken took : Option (List ℕ)) : Type 0 where
  pub text : List ℕ
  pub grows : Grows taken took text
  pub flat : Flat
  pub comes : ComesTo t.machine l symbols flat
  pub counted : (f : Flat) → ComesTo t.machine l symbols f → size f.network.tables ≡ count
  pub runs : (f : Flat) → ComesTo t.machine l symbols f → RunsToExit t.machine f i o
  pub tells : (f : Flat) → ComesTo t.machine l symbols f → Tells given t l symbols f i o status text

-- for every run that the arguments ask for, and every outcome of the machine's own bounded run, on an input within the
-- limit
abbrev pub TellsHeadline : List (List ℕ) → List ℕ → Status → Option (List ℕ) → Option (List ℕ) → Type 0
TellsHeadline words bytes status taken took =
    length bytes ≤ MOST_INPUT_BYTES
    → (letters : List ℕ) (l : Limits) (given : Option ℕ) → AsksRun words letters l given
    → (t : Named) (symbols : List ℕ) (count i : ℕ) (o : Outcome) → ComesOutOn bytes letters l t symbols count i o
    → TookOutcome given t l symbols count i o status taken took
