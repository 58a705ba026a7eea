-- The laws of this crate, a named field each. `Laws` is the contract of `headline_laws`.
use Rattle.bn_network_assembly.specs.Widening.{IsEnd, first_window, number_at}
use Rattle.bn_circuits.specs.declared.net.TheConstants.{MOST_ELEMENTS}
use Rattle.bn_circuits.specs.declared.place.Place.{Place}
use Rattle.bn_headline.specs.AutoLaws.{AnswersTellFoundWindow, AutosEndInside, AutosTellFindings, AutosTellPlaces}
use Rattle.bn_headline.specs.AutoLaws.{RoundsAreTheSearchs, RoundsBeginAnswers}
use Rattle.bn_headline.specs.AutoReply.{AutoIsSettled, MakeRounds, SearchReplies}
use Rattle.bn_headline.specs.CircuitLaws.{HeadlineTellsCircuit}
use Rattle.bn_headline.specs.CommandLaws.{BackRepliesTell, BennettRepliesTell, MachineRepliesTell, StepRepliesTell}
use Rattle.bn_headline.specs.ControlLaws.{TranslationsHaveControls}
use Rattle.bn_headline.specs.CountLaws.{ControlsAreCounted}
use Rattle.bn_headline.specs.FlattenLaws.{FlattenedBoardsAreFlats, FlattenedBoardsRunToTheirExit}
use Rattle.bn_headline.specs.FoundHeadline.{IsWordGiven}
use Rattle.bn_headline.specs.FoundLaws.{FoundTellsMachine, OwnSearchEnds}
use Rattle.bn_headline.specs.GeneratedLaws.{GeneratedBoardsAreCounted, GeneratedBoardsAreThere}
use Rattle.bn_headline.specs.GeneratedLaws.{GeneratedControlsAreCounted}
use Rattle.bn_headline.specs.GeneratedRuns.{GeneratedRunsHalt}
use Rattle.bn_headline.specs.HeadlineLaws.{BoardsReturn, ElementsAreCounted, GeneratedTellsMachine, HeadlinesAgree}
use Rattle.bn_headline.specs.HeadlineLaws.{IncrementsAreCounted, IncrementsRun, OwnRunsAreOne, RepliesTellMachine}
use Rattle.bn_headline.specs.StuckLaws.{NamedStopsAreEnds, StopsAreNamed, StuckRunsAreNamed}
use Rattle.bn_headline.specs.WindowLaws.{CellsGrow, ElementsGrow, EndsAreFour, FoundComesOut, LargeIsTooLarge}
use Rattle.bn_headline.specs.WindowLaws.{NumbersStayLow, SearchEnds, SearchIsOne, SearchIsShort, WindowsAreWhole}
use Rattle.bn_machine.specs.Machine.{Program}
use Rattle.bn_machine.specs.Outcome.{Limits}
use Rattle.bn_machine.specs.declared.quint.Side.{Side}
use Rattle.bn_network.specs.Limits.{AreSmall}
use Rattle.bn_reply.specs.declared.status.Status.{Status}
use Rattle.bn_headline.specs.Rounds.{LeavesBy}
use Rattle.bn_table.specs.Rows.{Named}
use Rattle.std.specs.Prelude.{List, length, ℕ, ◌++◌, ◌+◌, ◌≡◌, ◌≤◌}

-- if the signal of the circuit in this window leaves by an end of a tape, this end may be doubled
pub record MayWiden (w : Limits) (tape : ℕ) (side : Side) : Type 0 where
  pub end : IsEnd tape side
  pub some : 1 ≤ number_at w tape side
  pub low : number_at w tape side ≤ 524288

-- there are not too many rounds, the window that they reach is within the limits, the word fits in it, and it may be
-- widened
pub record GoesOn (p : Program) (symbols : List ℕ) (rounds : ℕ) (w : Limits) : Type 0 where
  pub few : rounds ≤ MOST_ELEMENTS + 1
  pub small : AreSmall w
  pub fits : length symbols ≤ w.right
  pub wider : (tape : ℕ) (side : Side) (told : List Place) → LeavesBy p symbols w tape side told → MayWiden w tape side

abbrev pub RoundsGoOn : Type 0
RoundsGoOn =
    (bytes letters : List ℕ) (t : Named) (symbols : List ℕ) → IsWordGiven bytes letters t symbols
    → (n : ℕ) (w : Limits) (told : List Place) → MakeRounds t.machine symbols n (first_window symbols) w told
    → GoesOn t.machine symbols n w

-- whatever rounds are made, their places are the first of those of an answer to the search
pub record BeginsSearch (t : Named) (symbols : List ℕ) (front : List Place) : Type 0 where
  pub status : Status
  pub text : List ℕ
  pub told : List Place
  pub rest : List Place
  pub replies : SearchReplies t symbols status text told
  pub begins : told ≡ front ++ rest

abbrev pub RoundsBeginSearches : Type 0
RoundsBeginSearches =
    (bytes letters : List ℕ) (t : Named) (symbols : List ℕ) → IsWordGiven bytes letters t symbols
    → (n : ℕ) (w : Limits) (front : List Place) → MakeRounds t.machine symbols n (first_window symbols) w front
    → BeginsSearch t symbols front

-- ---- the laws

pub record Laws : Type 0 where
  -- The replies of `machine` and `bennett` to a table whose machine is in standard form, and those of `step` and `back`
  -- to a text that spells a configuration: how the machine's own run ends, the table of its reversible machine, and the
  -- text of the configuration to which, or from which, the circuit goes.
  pub commands_tell : MachineRepliesTell × BennettRepliesTell × StepRepliesTell × BackRepliesTell
  -- The control of Bennett's reversible machine has 12N - 2N' + 4(f - 1) + 8z + 16 states, for N quintuples, N' of them
  -- without a shift, f states and z symbols, less one for each state other than the start that is no quintuple's next,
  -- and less one for each state other than the final that is no quintuple's state.
  pub controls_are_counted : ControlsAreCounted
  -- The elements of a machine's network are counted by the machine and its limits alone.
  pub elements_are_counted : ElementsAreCounted
  -- If the sink received the reply to a run, it received what the machine's own bounded run names.
  pub replies_tell_machine : RepliesTellMachine
  -- The circuits of one to four increments have this many elements.
  pub increments_are_counted : IncrementsAreCounted
  -- The machine of k increments has such a run, and its circuit is not too large.
  pub increments_run : IncrementsRun
  -- What reports the outcome of the run of k increments reports that it halts after 10k + 1 steps with 11 + k.
  pub generated_tells_machine : GeneratedTellsMachine
  -- A table in standard form, a word that fits and limits within their bounds have an own run, and only one.
  pub own_runs_are_one : OwnRunsAreOne
  -- The signal is inside below the cost and outside at it, and steps back lead back, from the exit to the start.
  pub boards_return : BoardsReturn
  -- Two answers to the same arguments and bytes, which ask for a run without a greatest number of steps and have an own
  -- run, have one status, if the headline holds for both, and one text, or two that differ in the number of element
  -- steps alone.
  pub headlines_agree : HeadlinesAgree
  -- The headline of the circuits implies the headline by the circuit.
  pub headline_tells_circuit : HeadlineTellsCircuit
  -- What reports the automatic window reports it by the machine alone, and by the circuit; and the search by the
  -- machine alone ends.
  pub found_tells_machine : FoundTellsMachine × OwnSearchEnds
  -- The circuit that is flattened from the network of a translation is the machine's circuit, at its start.
  pub flattened_boards_are_flats : FlattenedBoardsAreFlats
  -- The circuit that is flattened from the network of a translation runs to the exit that the one-tape machine's own
  -- run names.
  pub flattened_boards_run_to_their_exit : FlattenedBoardsRunToTheirExit
  -- If the run of an assembled network stops, `stuck_of` names the machine's state and the symbol.
  pub stops_are_named : StopsAreNamed × NamedStopsAreEnds × StuckRunsAreNamed
  -- The machine of a translation meets the control's condition, in standard form or not.
  pub translations_have_controls : TranslationsHaveControls
  -- The circuits of the machine of k increments on 1011 have this many elements, which are not too many, and exist.
  pub generated_boards_are_there : GeneratedControlsAreCounted × GeneratedBoardsAreCounted × GeneratedBoardsAreThere
  -- The machine of k increments halts on 1011 after 10k + 1 steps, with k more.
  pub generated_runs_halt : GeneratedRunsHalt
  -- A bounded run ends in one of four ways alone.
  pub ends_are_four : EndsAreFour
  -- Each doubling adds at least one cell.
  pub cells_grow : CellsGrow
  -- A circuit has at least 22 elements for each of its cells, and each doubling adds at least 22.
  pub elements_grow : ElementsGrow
  -- A window whose circuit is not too large can be widened at each end.
  pub numbers_stay_low : NumbersStayLow
  -- The search for a window ends.
  pub search_ends : SearchEnds
  -- The search for a window makes at most one round more than the greatest number of elements.
  pub search_is_short : SearchIsShort
  -- The search for a window has one result, after one number of rounds.
  pub search_is_one : SearchIsOne
  -- Each window on the way has numbers from 1 on and room for the word, and is within the limits if the word is no
  -- longer than a number may be.
  pub windows_are_whole : WindowsAreWhole
  -- In the window that is found the machine halts or is stuck.
  pub found_comes_out : FoundComesOut
  -- If no window is found, the last circuit is too large.
  pub large_is_too_large : LargeIsTooLarge
  -- The rounds on the circuits are those of the search by the machine's own bounded runs.
  pub rounds_are_the_searchs : RoundsAreTheSearchs
  -- For all words and bytes, `run =W auto` has exactly one answer.
  pub auto_has_one_reply : AutoIsSettled
  -- The answer reports what the search by the machine's own bounded runs finds.
  pub autos_tell_findings : AutosTellFindings
  -- The places are those of the circuit in each window of the search in turn, up to its cost.
  pub autos_tell_places : AutosTellPlaces
  -- The status is never that of a window, and never that of a run cut short.
  pub autos_end_inside : AutosEndInside
  -- The headline of the automatic window follows from the answer, if the sink receives it whole.
  pub answers_tell_found_window : AnswersTellFoundWindow
  -- Whatever rounds are made from the first window on, their places are the first of those in the answer.
  pub rounds_begin_answers : RoundsBeginAnswers
  -- Whatever rounds are made, there are not too many of them, the window that they reach is within the limits, and if
  -- the signal of its circuit leaves by an end of a tape, this end may be doubled.
  pub rounds_go_on : RoundsGoOn
  -- Whatever rounds are made, there is an answer to the search whose places begin with theirs.
  pub rounds_begin_searches : RoundsBeginSearches
