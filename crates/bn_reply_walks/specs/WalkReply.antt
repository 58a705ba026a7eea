-- The answer of the command `walk`: a script that is played on the circuit of a configuration text, from the
-- configuration that the text spells (circuit, script and text are this project's own definitions).
use Rattle.std.specs.Prelude.{◌≡◌, ℕ, List, [], Option, None}
use Rattle.bn_circuits.specs.declared.config.Config.{Config}
use Rattle.bn_circuits.specs.declared.place.Place.{Place}
use Rattle.bn_netlist_laws.specs.Spelling.{Spelling, Spelled, circuit_of}
use Rattle.bn_netlist_laws.specs.declared.version.Version.{Version}
use Rattle.bn_reply.specs.Answering.{IsSettled}
use Rattle.bn_reply.specs.declared.status.Status.{Status}
use Rattle.bn_reply.specs.declared.status.Status.TheVariants.{Text}
use Rattle.bn_reply_relations.specs.CircuitReply.{Misspelled}
use Rattle.bn_reply_scripts.specs.ScriptReply.{CutReplies, ScriptReplies}
use Rattle.bn_session.specs.Plays.{Plays, Session, session, given}
use Rattle.bn_session.specs.declared.command.Command.{Command}
use Rattle.bn_reply_walks.specs.WalkView.{walk_view}

-- on the circuit of a text no configuration is the moment of a state
abbrev pub no_moment : Config → Option ℕ
no_moment c = None

-- the text is the answer to these commands, played on the circuit of a spelling from its configuration
abbrev pub IsWalkOf : Spelling → List Command → List ℕ → Type 0
IsWalkOf s commands text =
    (end : Session)
    × Plays (circuit_of s) no_moment (given (walk_view s.config.states)) commands (session s.config []) end text

-- The answer to the bytes of a configuration text, of either version, and of a script: the first fault of bytes that
-- are no such text; or the script's first error; or the answer to the script. A watch receives nothing.
pub data WalkTextReplies (bytes script : List ℕ) (status : Status) (text : List ℕ) (told : List Place) : Type 0 where
  misspelled : Misspelled bytes text → status ≡ Text → told ≡ [] → WalkTextReplies bytes script status text told
  spelled : (v : Version) (s : Spelling) → Spelled v s bytes → ScriptReplies None (IsWalkOf s) script status text told
      → WalkTextReplies bytes script status text told

-- the answer of `walk` to these bytes
abbrev pub WalkReplies : List ℕ → Status → List ℕ → List Place → Type 0
WalkReplies = CutReplies WalkTextReplies

-- it has exactly one answer to all bytes
abbrev pub WalkIsSettled : Type 0
WalkIsSettled = (bytes : List ℕ) → IsSettled (WalkReplies bytes)
