-- The statements of this crate's laws, each a field of `Laws`.
use Rattle.std.specs.Prelude.{◌≡◌, ◌≢◌, ◌↔◌, ℕ, ◌+◌, ◌-◌, ◌<◌, ◌≤◌, List, length, Option, Some, None}
use Rattle.bn_io.specs.Told.{Grows}
use Rattle.bn_circuits.specs.declared.place.Place.{Place}
use Rattle.bn_circuits.specs.Stepping.{places}
use Rattle.bn_machine.specs.Machine.{Program}
use Rattle.bn_machine.specs.Outcome.{Limits, Outcome, HasOutcome}
use Rattle.bn_netlist_laws.specs.Spelling.{Spelling, Spelled}
use Rattle.bn_netlist_laws.specs.declared.version.Version.TheVariants.{Two}
use Rattle.bn_circuits.specs.declared.net.TheConstants.{MOST_ELEMENTS}
use Rattle.bn_table.specs.Rows.{Named}
use Rattle.bn_boards.specs.Boards.{size}
use Rattle.bn_boards.specs.declared.exit.Exit.{Exit}
use Rattle.bn_boards.specs.declared.exit.Exit.TheVariants as exit
use Rattle.bn_boards.specs.Layouts.{IsExit, IsNamedExit, moments}
use Rattle.bn_boards.specs.Flats.{AreSameFlats, Flat, IsAccepted, IsFlatOf, flat_start}
use Rattle.bn_boards.specs.Costs.{HasCost}
use Rattle.bn_reply.specs.declared.status.Status.{Status}
use Rattle.bn_reply.specs.declared.status.Status.TheVariants as statuses
use Rattle.bn_reply_relations.specs.Counts.{Counts}
use Rattle.bn_network.specs.Limits.{AreSmall}
use Rattle.bn_reply_relations.specs.Windows.{ComesTo, CountsElements}
use Rattle.bn_reply_relations.specs.CompileReply.{IsFlatSpelling}
use Rattle.bn_reply_relations.specs.RunText.{run_text}
use Rattle.bn_reply_relations.specs.RunReply.{reached, exit_status, HasMoment, RunReplies, TellsRun, board_after}
use Rattle.bn_reply_relations.specs.RunReply.{budget}
use Rattle.bn_reply_relations.specs.ToldRuns.{AsksRun, ComesOutOn, IsGiven, TellsHeadline, TellsOutcome, TookOutcome}
use Rattle.bn_reply.specs.declared.limits.TheConstants.{MOST_INPUT_BYTES}
use Rattle.bn_reply_relations.specs.CircuitReply.{CircuitIsSettled}
use Rattle.bn_reply_relations.specs.CompileLaws.{TextsDifferInWords, CompiledTextsStepBack}
use Rattle.bn_reply_relations.specs.CompileReply.{CompileIsSettled}
use Rattle.bn_reply_relations.specs.MigrateReply.{MigrateIsSettled, MigratedStays}
use Rattle.bn_reply_relations.specs.RunReply.{RunIsSettled}
use Rattle.bn_reply_relations.specs.TextSizes.{TextsAreShort, TextsMayBeRead}

-- two counts of the elements of one machine's circuit agree, and they are the size of each of its circuits
abbrev pub BoardsAreCounted : Type 0
BoardsAreCounted =
    ((p : Program) (l : Limits) (a b : ℕ) → CountsElements p l a → CountsElements p l b → a ≡ b)
    × ((p : Program) (symbols : List ℕ) (l : Limits) (f : Flat) → IsFlatOf p symbols l f
    → CountsElements p l (size f.network.tables))

-- a given input that has a circuit may be compiled
abbrev pub GivenBoardsAreAccepted : Type 0
GivenBoardsAreAccepted =
    (bytes letters : List ℕ) (l : Limits) (t : Named) (symbols : List ℕ) (f : Flat)
    → IsGiven bytes letters l t symbols → ComesTo t.machine l symbols f → IsAccepted t.machine symbols l f

-- a circuit at its start has a configuration text, in version 2
abbrev pub BoardsAreSpelled : Type 0
BoardsAreSpelled =
    (p : Program) (symbols : List ℕ) (l : Limits) (f : Flat) → IsFlatOf p symbols l f → IsAccepted p symbols l f
    → (s : Spelling) × IsFlatSpelling f s × ((text : List ℕ) × Spelled Two s text)

-- after each number of steps of a circuit the signal is inside, or it has left by a named exit
abbrev pub ExitsAreNamed : Type 0
ExitsAreNamed =
    (p : Program) (symbols : List ℕ) (l : Limits) (f : Flat) → IsFlatOf p symbols l f → IsAccepted p symbols l f
    → (n : ℕ) → (e : Exit) × IsNamedExit f.layout (board_after f n).place e

-- the moments that a circuit's layout finds within a number of steps are the run's moments, counted up to the last
-- step made
abbrev pub MomentsAreCounted : Type 0
MomentsAreCounted =
    (p : Program) (symbols : List ℕ) (l : Limits) (f : Flat) → IsFlatOf p symbols l f → IsAccepted p symbols l f
    → (n : ℕ)
    → Counts (HasMoment f) ((board_after f n).steps + 1)
    (moments f.layout f.circuit (board_after f n).steps (flat_start f))
    × (moments f.layout f.circuit n (flat_start f) ≡ moments f.layout f.circuit (board_after f n).steps (flat_start f))

-- an answer that reports the run of one circuit reports it for each circuit of the same machine, word and limits
abbrev pub BoardsTellAlike : Type 0
BoardsTellAlike =
    (bytes letters : List ℕ) (l : Limits) (t : Named) (symbols : List ℕ) (f g : Flat) (given : Option ℕ)
    (status : Status) (text : List ℕ) (told : List Place) → IsGiven bytes letters l t symbols
    → ComesTo t.machine l symbols f → ComesTo t.machine l symbols g
    → TellsRun given t f status text told → TellsRun given t g status text told

-- the text of a run by the layout: with this exit, and the moments that the layout finds
abbrev pub found_text : Option ℕ → Named → Flat → Exit → List ℕ
found_text given t f e =
    run_text t f (reached f given) (moments f.layout f.circuit (budget f given) (flat_start f) - 1) e

-- any exit that the layout finds for the place where a run ends has a name, and with it and the moments that the
-- layout finds, the text reports the run
abbrev pub BoardsTellRuns : Type 0
BoardsTellRuns =
    (bytes letters : List ℕ) (l : Limits) (t : Named) (symbols : List ℕ) (f : Flat) (given : Option ℕ)
    → IsGiven bytes letters l t symbols → ComesTo t.machine l symbols f
    → (e : Exit) → IsExit f.layout (reached f given).place e
    → (e ≢ exit.Unnamed)
    × TellsRun given t f (exit_status e) (found_text given t f e) (places f.circuit (budget f given) (flat_start f))

-- for the place where a run ends, the layout finds an exit
abbrev pub BoardsHaveRuns : Type 0
BoardsHaveRuns =
    (bytes letters : List ℕ) (l : Limits) (t : Named) (symbols : List ℕ) (f : Flat) (given : Option ℕ)
    → IsGiven bytes letters l t symbols → ComesTo t.machine l symbols f
    → (e : Exit) × IsExit f.layout (reached f given).place e

-- the run of a circuit without a greatest number of steps reports the outcome of the machine's own bounded run
abbrev pub RunsTellOutcomes : Type 0
RunsTellOutcomes =
    (bytes letters : List ℕ) (l : Limits) (t : Named) (symbols : List ℕ) (f : Flat) (status : Status)
    (text : List ℕ) (told : List Place) → IsGiven bytes letters l t symbols → ComesTo t.machine l symbols f
    → TellsRun None t f status text told
    → (i : ℕ) (o : Outcome) → HasOutcome t.machine symbols l i o → TellsOutcome t l symbols f i o status text

-- With a greatest number of steps the status is `Inside` exactly if that is below the cost. From the cost on the run
-- reports what it reports without it; below the cost the text is that of the circuit after this many steps.
abbrev pub RunsStopWithin : Type 0
RunsStopWithin =
    (bytes letters : List ℕ) (l : Limits) (t : Named) (symbols : List ℕ) (f : Flat) (e : ℕ) (status : Status)
    (text : List ℕ) (told : List Place) → IsGiven bytes letters l t symbols → ComesTo t.machine l symbols f
    → TellsRun (Some e) t f status text told
    → (cost : ℕ) → HasCost f cost
    → ((status ≡ statuses.Inside) ↔ (e < cost))
    × (cost ≤ e → TellsRun None t f status text told)
    × (e < cost → text ≡ run_text t f (board_after f e) 0 exit.Inside)

-- Each machine in standard form, word of its letters and limits within their bounds have one count of elements and one
-- outcome; and if the word fits and the elements are not too many, they have a circuit, and all their circuits are the
-- same up to the order of wires, with one cost.
pub record HasOneOfEach (p : Program) (l : Limits) (symbols : List ℕ) : Type 0 where
  pub count : ℕ
  pub counts : CountsElements p l count
  pub one_count : (other : ℕ) → CountsElements p l other → other ≡ count
  pub steps : ℕ
  pub outcome : Outcome
  pub comes_out : HasOutcome p symbols l steps outcome
  pub one_outcome : (i : ℕ) (o : Outcome) → HasOutcome p symbols l i o → (i ≡ steps) × (o ≡ outcome)
  pub board : length symbols ≤ l.right → count ≤ MOST_ELEMENTS → (f : Flat) × ComesTo p l symbols f
      × ((g : Flat) → ComesTo p l symbols g → AreSameFlats f g)
  pub cost : (f : Flat) → ComesTo p l symbols f → (cost : ℕ) × HasCost f cost
      × ((other : ℕ) → HasCost f other → other ≡ cost)

abbrev pub RunsHaveOneOfEach : Type 0
RunsHaveOneOfEach =
    (bytes letters : List ℕ) (l : Limits) (t : Named) (symbols : List ℕ) → IsGiven bytes letters l t symbols
    → HasOneOfEach t.machine l symbols

-- a reply to arguments that ask for a run states the headline, if the sink receives its text
abbrev pub RepliesTellOutcomes : Type 0
RepliesTellOutcomes =
    (given : Option ℕ) (bytes letters : List ℕ) (l : Limits) (status : Status) (text : List ℕ) (told : List Place)
    (taken took : Option (List ℕ)) → RunReplies given letters l bytes status text told → Grows taken took text
    → (t : Named) (symbols : List ℕ) (count i : ℕ) (o : Outcome) → ComesOutOn bytes letters l t symbols count i o
    → TookOutcome given t l symbols count i o status taken took

-- the sink took the reply to every run that the arguments ask for
abbrev pub TookReplies : List (List ℕ) → List ℕ → Status → Option (List ℕ) → Option (List ℕ) → Type 0
TookReplies words bytes status taken took =
    (letters : List ℕ) (l : Limits) (given : Option ℕ) → AsksRun words letters l given → AreSmall l
    → length bytes ≤ MOST_INPUT_BYTES
    → (text : List ℕ) × (told : List Place) × RunReplies given letters l bytes status text told × Grows taken took text

-- an answer that was given whole implies the headline
abbrev pub AnswersTellHeadline : Type 0
AnswersTellHeadline =
    (words : List (List ℕ)) (bytes : List ℕ) (status : Status) (taken took : Option (List ℕ))
    → TookReplies words bytes status taken took → TellsHeadline words bytes status taken took

-- ---- the laws

pub record Laws : Type 0 where
  -- For all numbers of steps and bytes, `step` and `back` have exactly one answer.
  pub circuits_have_one_reply : CircuitIsSettled
  -- For all bytes, `migrate` has exactly one answer.
  pub migrate_has_one_reply : MigrateIsSettled
  -- A migrated text is unchanged by `migrate`.
  pub migrated_stays : MigratedStays
  -- A configuration text has at most 52 bytes per element and 97 for its header, in either version, and is within the
  -- limit of an input.
  pub texts_may_be_read : TextsAreShort × TextsMayBeRead
  -- The machine and the limits alone determine the number of elements of a circuit.
  pub boards_are_counted : BoardsAreCounted
  -- A table's machine in standard form, a word of its letters and limits within their bounds may be compiled, if their
  -- circuit is not too large.
  pub given_boards_are_accepted : GivenBoardsAreAccepted
  -- A circuit at its start has a configuration text.
  pub boards_are_spelled : BoardsAreSpelled
  -- After each number of steps the signal of a circuit is inside, or it has left by a named exit.
  pub exits_are_named : ExitsAreNamed
  -- The moments that the layout of a circuit finds on its run are the run's moments, counted.
  pub moments_are_counted : MomentsAreCounted
  -- An answer for the run of one circuit holds for each circuit of the same machine, word and limits.
  pub boards_tell_alike : BoardsTellAlike
  -- For the place where a run ends, the layout finds an exit.
  pub boards_have_runs : BoardsHaveRuns
  -- The exit and the moments that the layout finds determine the answer of a run.
  pub boards_tell_runs : BoardsTellRuns
  -- For all words, limits within their bounds, and bytes, `compile` has exactly one answer.
  pub compile_has_one_reply : CompileIsSettled
  -- The texts of two words on one table in one window spell one circuit with one start, end and place; their bars
  -- differ at most at bottoms of tape 1's cells.
  pub texts_differ_in_words : TextsDifferInWords
  -- What `step` makes of a compiled text, `back` undoes.
  pub compiled_texts_step_back : CompiledTextsStepBack
  -- For all words, limits within their bounds, numbers of steps and bytes, `run` has exactly one answer.
  pub run_has_one_reply : RunIsSettled
  -- The run of a circuit without a greatest number of steps reports the outcome of the machine's own bounded run.
  pub runs_tell_outcomes : RunsTellOutcomes
  -- With a greatest number of steps the signal is inside exactly if that is below the circuit's cost; otherwise the
  -- report is the one without it.
  pub runs_stop_within : RunsStopWithin
  -- Each machine, word and limits have one count of elements and one outcome. If the word fits and the circuit is not
  -- too large, they have one circuit, up to the order of wires, and one cost.
  pub runs_have_one_of_each : RunsHaveOneOfEach
  -- A reply to a run, if the sink receives its text, reports the outcome of the machine's own bounded run.
  pub replies_tell_outcomes : RepliesTellOutcomes
  -- The headline follows from the answer, if the sink receives it whole.
  pub answers_tell_headline : AnswersTellHeadline
