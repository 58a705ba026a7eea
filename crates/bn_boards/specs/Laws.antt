-- The laws of this crate, a named field each. `Laws` is the contract of `boards_laws`.
use Rattle.bn_bennett_laws.specs.Steps.{Exit, Finished}
use Rattle.bn_boards.specs.ExistenceLaws.{FlatsAreThere, LayoutsAreThere, NetworksAreModules, NetworksAreThere}
use Rattle.bn_boards.specs.Moments.{BoardsHaveMoments, MomentsAreByMarks, MomentsAreTold}
use Rattle.bn_boards.specs.NetworkMoments.{NetworksHaveMoments, NetworksStopAtFirstReads, StartsSpellWords}
use Rattle.bn_boards.specs.NetworkMoments.{machine_start}
use Rattle.bn_boards.specs.RunLaws.{BoardsAreRestored, BoardsEndInTime, BoardsLeaveByOutcomes, BoardsRunBack}
use Rattle.bn_boards.specs.RunLaws.{BoardsRunToTheirExit, CostsAreOne, ExitsTellOutcomes, NetworksEndAlike}
use Rattle.bn_boards.specs.BoardLaws.{BoardsAreThere, BoardsFollow, BoardsVisit, LooseMove, ModulesAreBanks}
use Rattle.bn_boards.specs.BoardLaws.{OneMove}
use Rattle.bn_boards.specs.Boards.{board_start}
use Rattle.bn_boards.specs.Builds.{Build, IsBuild, IsStart, build_elements}
use Rattle.bn_boards.specs.LayoutLaws.{BoardsRead, ExitsAreOne, FlatsAreOne, WordsDifferInCells, WordsShareBoards}
use Rattle.bn_boards.specs.Layouts.{moment_at}
use Rattle.bn_boards.specs.NetworkReads.{NetworksAreRead}
use Rattle.bn_boards.specs.BuildRuns.{BuildRunsTo, EndsInWindow, HasLeft, ShowsMoment}
use Rattle.bn_circuits.specs.Circuits.{Goes, IsStuck, clock}
use Rattle.bn_circuits.specs.Situations.{Situation}
use Rattle.bn_circuits.specs.Stepping.{back, run}
use Rattle.bn_circuits.specs.declared.config.Config.{Config}
use Rattle.bn_circuits.specs.declared.place.Place.TheVariants.{Left}
use Rattle.bn_lists.specs.Runs.{Reaches}
use Rattle.bn_machine.specs.Outcome.{Limits}
use Rattle.bn_network.specs.Moments.{HasLetters}
use Rattle.bn_network.specs.Networks.{network_start}
use Rattle.bn_network.specs.Starts.{AreInputs, FitsWindow, start_from, words_on}
use Rattle.bn_quad.specs.Calls.{IsUniformMachine}
use Rattle.bn_quad.specs.Quadruples.{Configuration, IsQuadMachine, Quadruples, initial_of, inverse_of}
use Rattle.std.specs.Prelude.{List, Some, [], ℕ, ◌*◌, ◌+◌, ◌≡◌, ◌≤◌}
use Rattle.bn_boards.specs.OwnRuns.{OwnRunsEnd, OwnRunsFromWordsEnd, OwnRunsAreOne}

-- ---- builds and their starts

abbrev pub BuildsAreThere : Type 0
BuildsAreThere =
    (m : Quadruples) (l : Limits) → IsQuadMachine m → IsUniformMachine m → HasLetters m
    → (f : Build) × (f.machine ≡ m) × (f.limits ≡ l) × IsBuild f

abbrev pub BuildsStartAnywhere : Type 0
BuildsStartAnywhere =
    (f : Build) → IsBuild f → (c : Configuration ℕ) → c.state ≡ initial_of f.machine.rules
    → FitsWindow f.machine f.limits c
    → IsStart f c (start_from f.machine f.limits c)
    (board_start f.network.tables (start_from f.machine f.limits c))

abbrev pub WordsFit : Type 0
WordsFit = (f : Build) → IsBuild f → (one two three : List ℕ) → AreInputs f.machine f.limits one two three
    → FitsWindow f.machine f.limits (words_on f.machine one two three)

abbrev pub BuildsStartWithWords : Type 0
BuildsStartWithWords =
    (f : Build) → IsBuild f → (one two three : List ℕ) → AreInputs f.machine f.limits one two three
    → IsStart f (words_on f.machine one two three) (start_from f.machine f.limits (words_on f.machine one two three))
    (board_start f.network.tables (start_from f.machine f.limits (words_on f.machine one two three)))

abbrev pub OneWordStarts : Type 0
OneWordStarts = (m : Quadruples) (l : Limits) (word : List ℕ)
    → (words_on m word [] [] ≡ machine_start m word)
    × (start_from m l (words_on m word [] []) ≡ network_start m l word)

-- ---- runs

-- the clock has room for the bound on the element steps that the machine's steps give
abbrev pub BuildsRunToTheirExit : Type 0
BuildsRunToTheirExit =
    (f : Build) → IsBuild f → (c : Configuration ℕ) (s : Situation) (at_start : Config) → IsStart f c s at_start
    → (n : ℕ) (d : Configuration ℕ) (e : Exit) → EndsInWindow f c n d e
    → 4 * build_elements f + 48 * build_elements f * (n + 1) ≤ clock
    → BuildRunsTo f s at_start n d e

-- r + j steps of the run, followed by j backward steps
abbrev pub BuildsRunBack : Type 0
BuildsRunBack =
    (f : Build) → IsBuild f → (s : Situation) (at_start : Config) (n : ℕ) (d : Configuration ℕ) (e : Exit)
    → (ran : BuildRunsTo f s at_start n d e) → (j r : ℕ) → r + j ≤ ran.cost
    → back f.circuit (run f.circuit at_start (r + j)) j ≡ run f.circuit at_start r

-- If a circuit has stopped at x after t steps, the machine's own run has ended in this way at this configuration, and
-- the circuit's run is the one to that end, in t steps.
pub record Told (f : Build) (c : Configuration ℕ) (s : Situation) (at_start : Config) (t : ℕ)
    (x : Config) : Type 0 where
  pub steps : ℕ
  pub final : Configuration ℕ
  pub exit : Exit
  pub ends : EndsInWindow f c steps final exit
  pub ran : BuildRunsTo f s at_start steps final exit
  pub cost : ran.cost ≡ t
  pub there : run f.circuit at_start ran.cost ≡ x

-- the clock has room for the t steps and for the element steps of one more step of the machine
abbrev pub BuildsTellTheirMachine : Type 0
BuildsTellTheirMachine =
    (f : Build) → IsBuild f → (c : Configuration ℕ) (s : Situation) (at_start : Config) → IsStart f c s at_start
    → (t : ℕ) (x : Config) → Reaches (Goes f.circuit) t at_start x → IsStuck f.circuit x
    → t + 48 * build_elements f ≤ clock → Told f c s at_start t x

-- at any step: the clock has room for the element steps from one step of the machine to the next
abbrev pub BuildsAreLeftByTheirMachine : Type 0
BuildsAreLeftByTheirMachine =
    (f : Build) → IsBuild f → 48 * build_elements f ≤ clock → (c : Configuration ℕ) (s : Situation) (at_start : Config)
    → IsStart f c s at_start → (t : ℕ) (x : Config) → Reaches (Goes f.circuit) t at_start x
    → (e l : ℕ) → x.place ≡ Left e l → HasLeft f c x.place x.states

-- the same for the moments that the layout finds, and for the start
abbrev pub BuildsShowTheirMachine : Type 0
BuildsShowTheirMachine =
    (f : Build) → IsBuild f → 48 * build_elements f ≤ clock → (c : Configuration ℕ) (s : Situation) (at_start : Config)
    → IsStart f c s at_start
    → ((t : ℕ) (x : Config) → Reaches (Goes f.circuit) t at_start x → (a : ℕ) → moment_at f.layout x ≡ Some a
    → ShowsMoment f c a x.states)
    × ShowsMoment f c (initial_of f.machine.rules) at_start.states

abbrev pub BuildsEndOnce : Type 0
BuildsEndOnce =
    ((f : Build) → IsBuild f → (c : Configuration ℕ) (m n : ℕ) (d b : Configuration ℕ) (e g : Exit)
    → EndsInWindow f c m d e → EndsInWindow f c n b g → (m ≡ n) × (d ≡ b) × (e ≡ g))
    × ((f : Build) (s : Situation) (at_start : Config) (m n : ℕ) (d b : Configuration ℕ) (e g : Exit)
    → (h : BuildRunsTo f s at_start m d e) → (k : BuildRunsTo f s at_start n b g)
    → (h.cost ≡ k.cost) × (run f.circuit at_start h.cost ≡ run f.circuit at_start k.cost))

abbrev pub InverseBuildsRunBack : Type 0
InverseBuildsRunBack =
    (f g : Build) → IsBuild f → IsBuild g → g.machine ≡ inverse_of f.machine → g.limits ≡ f.limits
    → (c : Configuration ℕ) (s : Situation) (at_start : Config) → IsStart f c s at_start
    → (n : ℕ) (d : Configuration ℕ) → EndsInWindow f c n d Finished
    → IsStart g d (start_from g.machine g.limits d) (board_start g.network.tables (start_from g.machine g.limits d))
    × EndsInWindow g d n c Finished

-- ---- the laws

pub record Laws : Type 0 where
  -- Each module of a network is a bank of the network's circuit.
  pub modules_are_banks : ModulesAreBanks
  -- Every network of modules has a circuit of rotary elements.
  pub boards_are_there : BoardsAreThere
  -- One move of a network is one crossing of a bank in its circuit, in exactly its cost.
  pub one_move_is_one_crossing : OneMove
  -- If a module has no move, the signal leaves its bank by the loose port.
  pub missing_moves_lead_to_loose_lines : LooseMove
  -- A path of a network is a path of its circuit, in the sum of the costs of its moves.
  pub boards_follow_networks : BoardsFollow
  -- At each step of a run a circuit represents a situation of its network, or it is strictly within a move.
  pub boards_visit_situations : BoardsVisit
  -- Two circuits of one machine, word and limits are the same up to the order of wires.
  pub flats_are_one : FlatsAreOne
  -- A place in a circuit has at most one named exit.
  pub exits_are_one : ExitsAreOne
  -- The moments, exits and tapes of the network of a machine in standard form can be read from its circuit.
  pub boards_are_read : BoardsRead
  -- The circuits of two words have the same place at the start, and their bars differ at most at bottoms of the
  -- columns of tape 1's cells.
  pub words_differ_in_cells : WordsDifferInCells
  -- The circuits of two words have the same elements and wires, the same layout, and the same end place.
  pub words_share_boards : WordsShareBoards
  -- A uniform machine with a symbol on each tape has a network in any limits, and any two such networks have the same
  -- tables and wires.
  pub networks_are_there : NetworksAreThere
  -- Each module of a network can be a bank.
  pub networks_are_modules : NetworksAreModules
  -- A uniform machine has exactly one layout in any limits.
  pub layouts_are_there : LayoutsAreThere
  -- A machine in standard form within the limits of tables has a circuit for each word and limits, unique up to the
  -- order of wires.
  pub flats_are_there : FlatsAreThere
  -- The network passes its moments to the end that the machine's own bounded run determines.
  pub networks_end_alike : NetworksEndAlike
  -- The circuit runs to the exit that the machine's own bounded run determines.
  pub boards_run_to_their_exit : BoardsRunToTheirExit
  -- A circuit has at most one cost.
  pub costs_are_one : CostsAreOne
  -- A circuit's signal is inside below its cost, and has left at it; the cost is within the bound, and the bound is
  -- below the greatest number of steps.
  pub boards_end_in_time : BoardsEndInTime
  -- At its cost a circuit has exactly the exits that the outcome determines.
  pub exits_tell_outcomes : ExitsTellOutcomes
  -- The signal leaves a circuit by each exit exactly if the machine's own bounded run has that outcome, and by no
  -- port without a name.
  pub boards_leave_by_outcomes : BoardsLeaveByOutcomes
  -- When the signal leaves a circuit by its end port, the cells show the restored word, a blank history and only the
  -- output.
  pub boards_are_restored : BoardsAreRestored
  -- Backward steps from a run of a circuit lead to the configuration of a shorter run.
  pub boards_run_back : BoardsRunBack
  -- A circuit that represents a situation of its network is at the network's moment.
  pub moments_are_told : MomentsAreTold
  -- The moment found by a circuit's layout is the one given by its ports and its control's marked column.
  pub moments_are_by_marks : MomentsAreByMarks
  -- A circuit is at a moment exactly at the sums of costs at which its network is at one; no bank ever has two marked
  -- columns, no tape two heads.
  pub boards_have_moments : BoardsHaveMoments
  -- The moments, exits and tapes of the network of any uniform machine can be read from its circuit.
  pub networks_are_read : NetworksAreRead
  -- The moments, exits and tapes of the network of a translation can be read from its circuit.
  pub boards_are_read_alike : BoardsRead
  -- The network of any uniform machine passes its moments from the start, with one head per tape.
  pub networks_have_moments : NetworksHaveMoments
  -- At the reply to its first read, the network of any uniform machine stops exactly if the machine is stuck there.
  pub networks_stop_at_first_reads : NetworksStopAtFirstReads
  -- The cells of a circuit at its start show the word on tape 1 from cell 1 on, and nothing else, with the heads at
  -- 0.
  pub starts_spell_words : StartsSpellWords
  -- A uniform machine with a symbol on each tape has a build in every window.
  pub builds_are_there : BuildsAreThere
  -- A build can start with each configuration in the initial state that fits its window.
  pub builds_start_anywhere : BuildsStartAnywhere
  -- Three words of the tapes' symbols, each at most as long as its tape's right side, fit the window.
  pub words_fit : WordsFit
  -- A build can start with a word on each tape that fits the window, from cell 1 on, with all heads at 0.
  pub builds_start_with_words : BuildsStartWithWords
  -- With a word on tape 1 alone, this start is the start of a translated machine with that word.
  pub one_word_starts : OneWordStarts
  -- If the clock has room, any uniform machine's circuit runs, in exactly its cost, to the exit of the machine's own
  -- run in the window, and shows its tapes.
  pub builds_run_to_their_exit : BuildsRunToTheirExit
  -- Backward steps from within such a run restore its earlier configurations, and all of them together restore the
  -- start.
  pub builds_run_back : BuildsRunBack
  -- The converse, if the clock has room: if the circuit makes t steps and stops, the machine's own run has ended, and
  -- the circuit has run to that exit.
  pub builds_tell_their_machine : BuildsTellTheirMachine
  -- Whenever the signal has left, the machine's own run has ended, and the signal has left by the exit of that end.
  pub builds_are_left_by_their_machine : BuildsAreLeftByTheirMachine
  -- Whenever the layout finds a moment, the machine's own run has reached a configuration in that state, and the
  -- cells show its tapes; likewise at the start.
  pub builds_show_their_machine : BuildsShowTheirMachine
  -- The machine's own run in the window ends in only one way; the circuit's run to an exit has one cost and one last
  -- configuration.
  pub builds_end_once : BuildsEndOnce
  -- If the machine runs from a start to its end in n steps, a build of its inverse starts with that end, and the
  -- inverse runs back in n steps.
  pub inverse_builds_run_back : InverseBuildsRunBack
  -- The machine's own run in the window ends, from any initial configuration that fits the window, after fewer steps
  -- than the window has configurations.
  pub own_runs_end : OwnRunsEnd
  -- The machine's own run in the window ends also from words on the tapes.
  pub own_runs_from_words_end : OwnRunsFromWordsEnd
  -- The machine's own run in the window has one number of steps, one last configuration, and one exit.
  pub own_runs_are_one : OwnRunsAreOne
