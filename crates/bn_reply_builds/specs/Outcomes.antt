-- Where the signal of a drive is (this project's own profile): by the exit of the machine's own run, as a line, and as
-- a status.
use Rattle.std.specs.Prelude.{ℕ, List, [], ◌∷◌, ◌++◌, codes}
use Rattle.bn_machine.specs.Tape.{scanned}
use Rattle.bn_quad.specs.Quadruples.{Configuration}
use Rattle.bn_qtable.specs.Rows.{QuadTable}
use Rattle.bn_bennett_laws.specs.Steps.{Exit, Finished, Stopped, Leaving}
use Rattle.bn_boards.specs.declared.spelled.Spelled.{Spelled}
use Rattle.bn_netlist_laws.specs.Sentences.{line_text}
use Rattle.bn_reply.specs.Lines.{line}
use Rattle.bn_reply.specs.declared.status.Status.{Status}
use Rattle.bn_reply.specs.declared.status.Status.TheVariants as statuses
use Rattle.bn_reply_relations.specs.RunText.{window_line}
use Rattle.bn_reply_builds.specs.DriveText.{drive_tape_line, name_in}
use Rattle.bn_reply_builds.specs.declared.outcome.Stop.{Stop}
use Rattle.bn_reply_builds.specs.declared.outcome.Outcome.{Outcome}
use Rattle.bn_reply_builds.specs.declared.outcome.Outcome.TheVariants.{Inside, End, Stuck, Window, Unnamed}

-- the state, and the symbols that the heads scan
abbrev pub stop_at : Configuration ℕ → Stop
stop_at d = record { state = d.state; one = scanned d.one; two = scanned d.two; three = scanned d.three }

-- where the signal is if the machine's own run has ended in this configuration by this exit
abbrev pub outcome_by : Configuration ℕ → Exit → Outcome
outcome_by d Finished = End
outcome_by d Stopped = Stuck (stop_at d)
outcome_by d (Leaving tape s) = Window tape s

-- the names of the symbols that the heads scan, a space before each
abbrev pub scanned_text : QuadTable → Stop → List ℕ
scanned_text t s =
    (codes " " ++ name_in t.names.one s.one) ++ ((codes " " ++ name_in t.names.two s.two)
    ++ (codes " " ++ name_in t.names.three s.three))

-- the line of a stop, by a table's names
abbrev pub stop_line : QuadTable → Stop → List ℕ
stop_line t s = line (codes "exit stuck " ∷ name_in t.names.states s.state ∷ scanned_text t s ∷ [])

-- the line that says where the signal is
abbrev pub outcome_line : QuadTable → Outcome → List ℕ
outcome_line t (Inside l) = line (codes "inside " ∷ line_text l ∷ [])
outcome_line t End = line (codes "exit end" ∷ [])
outcome_line t (Stuck s) = stop_line t s
outcome_line t (Window tape s) = window_line tape s
outcome_line t Unnamed = []

-- the status
abbrev pub outcome_status : Outcome → Status
outcome_status (Inside l) = statuses.Inside
outcome_status End = statuses.Done
outcome_status (Stuck s) = statuses.Stuck
outcome_status (Window tape s) = statuses.Window
outcome_status Unnamed = statuses.Done

-- the lines of three tapes, by a table's names
abbrev pub drive_tape_lines : QuadTable → Spelled → List ℕ
drive_tape_lines t s = drive_tape_line t.names.one 1 s.one ++ (drive_tape_line t.names.two 2 s.two
    ++ drive_tape_line t.names.three 3 s.three)
