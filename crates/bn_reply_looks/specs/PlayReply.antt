-- The answer of the command `play`: a script played on the circuit of a uniform machine of quadruples in a window, from
-- its start with words on the tapes (circuit, script and text are this project's own definitions). It refuses what
-- `build` refuses of the table and the words, before the script is read.
use Rattle.std.specs.Prelude.{ℕ, List, [], Some}
use Rattle.bn_circuits.specs.declared.place.Place.{Place}
use Rattle.bn_machine.specs.Outcome.{Limits}
use Rattle.bn_quad.specs.Quadruples.{Configuration}
use Rattle.bn_qtable.specs.Rows.{QuadTable}
use Rattle.bn_qtable.specs.TapeWords.{TapeWords}
use Rattle.bn_network.specs.Starts.{words_on}
use Rattle.bn_boards.specs.Layouts.{moment_at}
use Rattle.bn_boards.specs.Builds.{Build, start_of}
use Rattle.bn_reply.specs.Answering.{IsSettled}
use Rattle.bn_reply.specs.declared.status.Status.{Status}
use Rattle.bn_reply_builds.specs.BuildReply.{BuiltReplies}
use Rattle.bn_reply_scripts.specs.ScriptReply.{CutReplies, ScriptReplies}
use Rattle.bn_session.specs.Plays.{Plays, Session, session}
use Rattle.bn_session.specs.declared.command.Command.{Command}
use Rattle.bn_reply_looks.specs.Looking.{ShowsBuild}

-- the text is the answer to these commands, played on the circuit of f from its start at c, with every layer as view
abbrev pub IsPlayOf : QuadTable → Configuration ℕ → Build → List Command → List ℕ → Type 0
IsPlayOf t c f commands text =
    (end : Session)
    × Plays f.circuit (moment_at f.layout) (ShowsBuild t f c) commands (session (start_of f c) []) end text

-- the answer to a script and a circuit at its start, whose states have the table's names
abbrev pub TellsPlay : List ℕ → QuadTable → Configuration ℕ → Build → Status → List ℕ → List Place → Type 0
TellsPlay script t c f = ScriptReplies (Some t.names.states) (IsPlayOf t c f) script

-- the answer of `play` to words on the tapes, limits and bytes
abbrev pub PlayReplies : TapeWords → Limits → List ℕ → Status → List ℕ → List Place → Type 0
PlayReplies words l =
    CutReplies (λ table script.
    BuiltReplies (λ t one two three. TellsPlay script t (words_on t.machine one two three)) words l table)

-- it has exactly one answer to all words, limits and bytes
abbrev pub PlayIsSettled : Type 0
PlayIsSettled = (words : TapeWords) (l : Limits) (bytes : List ℕ) → IsSettled (PlayReplies words l bytes)
