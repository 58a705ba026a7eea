-- The answer of the command `session`: a script played on the circuit of a machine and a word in a window (circuit,
-- script and text are this project's own definitions).
use Rattle.std.specs.Prelude.{ℕ, List, [], Some}
use Rattle.bn_circuits.specs.declared.place.Place.{Place}
use Rattle.bn_machine.specs.Outcome.{Limits}
use Rattle.bn_table.specs.Rows.{Named}
use Rattle.bn_bennett.specs.Printed.{translation_names}
use Rattle.bn_boards.specs.Layouts.{moment_at}
use Rattle.bn_boards.specs.Flats.{Flat, flat_start}
use Rattle.bn_reply.specs.Answering.{IsSettled}
use Rattle.bn_reply.specs.declared.status.Status.{Status}
use Rattle.bn_network.specs.Limits.{AreSmall}
use Rattle.bn_reply_relations.specs.Windows.{WindowReplies}
use Rattle.bn_session.specs.Plays.{Plays, Session, session}
use Rattle.bn_session.specs.declared.command.Command.{Command}
use Rattle.bn_reply_scripts.specs.ScriptReply.{CutReplies, ScriptReplies}
use Rattle.bn_reply_views.specs.Showing.{TellsLayers}

-- the printed names of the states of a circuit's reversible machine, by number
abbrev pub state_names_of : Named → Flat → List (List ℕ)
state_names_of t f = (translation_names t f.translation).states

-- the text is the answer to these commands, played on the circuit of f from its start, with every layer as view
abbrev pub IsAnswerTo : Named → Flat → List Command → List ℕ → Type 0
IsAnswerTo t f commands text =
    (end : Session)
    × Plays f.circuit (moment_at f.layout) (TellsLayers t f) commands (session (flat_start f) []) end text

-- the answer to a script and a circuit at its start
abbrev pub TellsSession : List ℕ → Named → Flat → Status → List ℕ → List Place → Type 0
TellsSession script t f = ScriptReplies (Some (state_names_of t f)) (IsAnswerTo t f) script

-- The answer of `session` to a word, limits and these bytes.
abbrev pub SessionReplies : List ℕ → Limits → List ℕ → Status → List ℕ → List Place → Type 0
SessionReplies word l = CutReplies (λ table script. WindowReplies (TellsSession script) word l table)

-- it has exactly one answer to all words, allowed limits and bytes
abbrev pub SessionIsSettled : Type 0
SessionIsSettled = (word : List ℕ) (l : Limits) (bytes : List ℕ) → AreSmall l → IsSettled (SessionReplies word l bytes)
