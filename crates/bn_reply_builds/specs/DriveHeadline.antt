-- The headline of `drive` by the machine of quadruples: what `drive` prints for a table, words and a window is what the
-- machine's own run in the window names (Bennett 1973 for the quadruples; the window and the text are this project's
-- own profile). Of the circuit it uses the number of elements alone.
use Rattle.std.specs.Prelude.{◌≡◌, ℕ, ◌+◌, ◌*◌, ◌<◌, ◌≤◌, List, [], ◌∷◌, ◌++◌, codes, Some}
use Rattle.bn_lists.specs.Runs.{Reaches}
use Rattle.bn_circuits.specs.Circuits.{clock}
use Rattle.bn_circuits.specs.declared.line.Line.{Line}
use Rattle.bn_circuits.specs.declared.place.Place.{Place}
use Rattle.bn_machine.specs.Outcome.{Limits}
use Rattle.bn_machine.specs.declared.quint.Side.{Side}
use Rattle.bn_circuits.specs.declared.net.TheConstants.{MOST_ELEMENTS}
use Rattle.bn_quad.specs.Calls.{IsUniformMachine}
use Rattle.bn_quad.specs.Quadruples.{Configuration, Quadruples, Follows, QuadruplesRunTo, final_state_of}
use Rattle.bn_qtable.specs.Reading.{ReadsQuadruples}
use Rattle.bn_qtable.specs.Rows.{QuadTable}
use Rattle.bn_qtable.specs.TapeWords.{TapeWords}
use Rattle.bn_bennett_laws.specs.Stages.{rooms_of}
use Rattle.bn_bennett_laws.specs.Steps.{EndsAt, Exit, Finished, Stopped, Leaving}
use Rattle.bn_network.specs.Controls.{IsNotLeft, symbol_count}
use Rattle.bn_network.specs.Starts.{words_on}
use Rattle.bn_network_laws.specs.Ends.{left_at, taken_from}
use Rattle.bn_network_laws.specs.Stops.{IsStuckAtRead, taken_to}
use Rattle.bn_boards.specs.declared.spelled.Spelled.{Spelled}
use Rattle.bn_boards.specs.Layouts.{spelled_config}
use Rattle.bn_boards.specs.Spans.{Spans}
use Rattle.bn_netlist_laws.specs.Sentences.{line_text}
use Rattle.bn_network_assembly.specs.Assembled.{CountsElements}
use Rattle.bn_reply.specs.Lines.{line}
use Rattle.bn_reply.specs.declared.status.Status.{Status}
use Rattle.bn_reply.specs.declared.status.Status.TheVariants.{Size, Inside}
use Rattle.bn_reply_relations.specs.RunText.{elements_line, quadruple_line, steps_line}
use Rattle.bn_reply_relations.specs.Windows.{large_line}
use Rattle.bn_reply_machines.specs.NamedWords.{AreNamedBy}
use Rattle.bn_reply_builds.specs.BuildReply.{HaveRoom, IsUncrowded}
use Rattle.bn_reply_builds.specs.DriveText.{drive_exit_line}
use Rattle.bn_reply_builds.specs.Driven.{drive_status}
use Rattle.bn_reply_builds.specs.DriveReply.{DriveReplies}
use Rattle.bn_reply_builds.specs.Outcomes.{drive_tape_lines}
use Rattle.bn_network.specs.declared.limits.TheConstants.{MOST_DRIVE_STEPS}

-- ---- what is given, and what the machine does

-- The bytes read as a table of quadruples whose machine passes both tests and is uniform, and no tape of which has more
-- symbols than a cell may tell apart; the words have the names of these symbols, and room in the window.
pub record IsGiven (words : TapeWords) (bytes : List ℕ) (l : Limits) (t : QuadTable) (one two three : List ℕ) :
    Type 0 where
  pub reads : ReadsQuadruples bytes t
  pub uniform : IsUniformMachine t.machine
  pub few : IsUncrowded t.machine
  pub named : AreNamedBy words t.names one two three
  pub room : HaveRoom l one two three

-- The machine's own run in the window from these words on its tapes makes n steps to d, and ends there by this exit.
pub record IsOwnRun (t : QuadTable) (l : Limits) (one two three : List ℕ) (n : ℕ) (d : Configuration ℕ) (e : Exit) :
    Type 0 where
  pub runs : Reaches (QuadruplesRunTo (rooms_of l) t.machine) n (words_on t.machine one two three) d
  pub ends : EndsAt (rooms_of l) t.machine.rules (final_state_of t.machine.rules) d e

-- ---- what is printed

-- The tapes that are shown if the run has ended at d by this exit. At the end they are those of d; at a read at which
-- the machine is stuck, those of d without the symbols that it has read there, the last one included; in a state that
-- no quadruple leaves, those without the scanned symbol of tape 1; and if a head leaves a tape's window, as they are
-- within the step that would leave it.
pub data ShowsEnd (m : Quadruples) (d : Configuration ℕ) (e : Exit) (shown : Configuration ℕ) : Type 0 where
  finished : e ≡ Finished → shown ≡ d → ShowsEnd m d e shown
  at_read : (tape : ℕ) (stop : IsStuckAtRead m d tape) → e ≡ Stopped → shown ≡ taken_to stop.rule d tape
      → ShowsEnd m d e shown
  unleft : IsNotLeft m d.state → e ≡ Stopped → shown ≡ taken_from d 1 → ShowsEnd m d e shown
  leaving : (tape : ℕ) (side : Side) (to : Configuration ℕ) (step : Follows m.rules d to) → e ≡ Leaving tape side
      → shown ≡ left_at tape step.leads.rule d → ShowsEnd m d e shown

-- the lines: the elements, where the signal is, the element steps, the machine's steps, and three tapes
abbrev pub drive_lines : QuadTable → ℕ → List ℕ → ℕ → ℕ → Spelled → List ℕ
drive_lines t count place cost steps tapes =
    elements_line count ++ (place ++ (steps_line cost ++ (quadruple_line steps ++ drive_tape_lines t tapes)))

-- The text and the status of a signal that left after this many element steps by the exit.
pub record TellsEnd (t : QuadTable) (l : Limits) (count n : ℕ) (d : Configuration ℕ) (e : Exit) (cost : ℕ)
    (status : Status) (text : List ℕ) : Type 0 where
  pub shown : Configuration ℕ
  pub shows : ShowsEnd t.machine d e shown
  pub text_is : text ≡ drive_lines t count (drive_exit_line t d e) cost n (spelled_config l shown)
  pub status_is : status ≡ drive_status (Some e)

-- The text and the status of a signal that is still inside after this many element steps: about to enter one of the
-- four ports of one of the elements, while the machine, whose whole run has n steps, has made some of them, if the
-- clock has room for the whole run. Which port it is, and what the cells of the window show, is left open here.
pub record TellsInside (t : QuadTable) (l : Limits) (count n most : ℕ) (status : Status) (text : List ℕ) :
    Type 0 where
  pub place : Line
  pub element : place.element < count
  pub side : place.line < 4
  pub steps : ℕ
  pub some_of_them : 4 * count + 48 * count * (n + 1) ≤ clock → steps ≤ n
  pub tapes : Spelled
  pub on_one : Spans l.left l.right (symbol_count t.machine 1) tapes.one
  pub on_two : Spans 0 l.steps (symbol_count t.machine 2) tapes.two
  pub on_three : Spans 0 l.output (symbol_count t.machine 3) tapes.three
  pub text_is : text ≡ drive_lines t count (line (codes "inside " ∷ line_text place ∷ [])) most steps tapes
  pub status_is : status ≡ Inside

-- The signal leaves by the exit after some number of element steps, which is at least that of the machine's steps and
-- at most a bound that grows with it. If that is within the greatest number, the exit is reported; otherwise the signal
-- is still inside.
pub record TellsOwnRun (most : ℕ) (t : QuadTable) (l : Limits) (count n : ℕ) (d : Configuration ℕ) (e : Exit)
    (status : Status) (text : List ℕ) : Type 0 where
  pub cost : ℕ
  pub above : n ≤ cost
  pub below : cost ≤ 4 * count + 48 * count * (n + 1)
  pub ended : cost ≤ most → TellsEnd t l count n d e cost status text
  pub inside : most < cost → TellsInside t l count n most status text

-- A circuit with too many elements is refused with their number, which the machine and the window determine; any other
-- is driven.
pub record TellsDriven (most : ℕ) (t : QuadTable) (l : Limits) (n : ℕ) (d : Configuration ℕ) (e : Exit)
    (status : Status) (text : List ℕ) : Type 0 where
  pub large : (count : ℕ) → CountsElements t.machine l count → MOST_ELEMENTS < count
      → (status ≡ Size) × (text ≡ large_line count)
  pub runs : (count : ℕ) → CountsElements t.machine l count → count ≤ MOST_ELEMENTS
      → TellsOwnRun most t l count n d e status text

-- ---- the headline

-- Whatever is given, and however the machine's own run ends, the answer of `drive` reports it.
abbrev pub DrivesTellTheirMachine : Type 0
DrivesTellTheirMachine =
    (words : TapeWords) (l : Limits) (most : ℕ) (bytes : List ℕ) (status : Status) (text : List ℕ) (told : List Place)
    → most ≤ MOST_DRIVE_STEPS → DriveReplies words l most bytes status text told
    → (t : QuadTable) (one two three : List ℕ) → IsGiven words bytes l t one two three
    → (n : ℕ) (d : Configuration ℕ) (e : Exit) → IsOwnRun t l one two three n d e
    → TellsDriven most t l n d e status text
