-- How a script is played on a circuit from a configuration, and what remains if memory runs out. The circuit, which
-- state a configuration is the moment of, and what a view may show are given.
use Rattle.std.specs.Prelude.{◌≡◌, ℕ, List, [], ◌++◌, Option}
use Rattle.bn_circuits.specs.Circuits.{Circuit}
use Rattle.bn_circuits.specs.declared.config.Config.{Config}
use Rattle.bn_circuits.specs.RotaryNets.{rotary_circuit}
use Rattle.bn_boards.specs.Layouts.{moment_at}
use Rattle.bn_board.specs.Flattened.{Flattened}
use Rattle.bn_session.specs.Plays.{Session, session, PlaysOne, Plays, IsLeftWithin}
use Rattle.bn_session.specs.declared.command.Command.{Command}

-- The script was played: the circuit is at this configuration, and the text has grown by the answer.
pub record IsPlayedFrom (k : Circuit) (moment : Config → Option ℕ) (shows : Config → List ℕ → Type 0) (c0 : Config)
    (xs : List Command) (c : Config) (old new : List ℕ) : Type 0 where
  pub end : Session
  pub text : List ℕ
  pub plays : Plays k moment shows xs (session c0 []) end text
  pub config : c ≡ end.config
  pub written : new ≡ old ++ text

-- The script was left within a command: the circuit is at the configuration after it, and the text has grown by the
-- answers to the commands before it and a prefix of its own.
pub record IsStoppedFrom (k : Circuit) (moment : Config → Option ℕ) (shows : Config → List ℕ → Type 0) (c0 : Config)
    (xs : List Command) (c : Config) (old new : List ℕ) : Type 0 where
  pub text : List ℕ
  pub within : IsLeftWithin k moment shows xs (session c0 []) c text
  pub written : new ≡ old ++ text

-- One command was played, or left: the session is that after it, and the text has grown by a prefix of its answer.
pub record IsOnePlayed (k : Circuit) (moment : Config → Option ℕ) (shows : Config → List ℕ → Type 0) (before : Session)
    (x : Command) (end : Session) (old new : List ℕ) : Type 0 where
  pub text : List ℕ
  pub plays : PlaysOne k moment shows x before end text
  pub written : new ≡ old ++ text

pub record IsOneLeft (k : Circuit) (moment : Config → Option ℕ) (shows : Config → List ℕ → Type 0) (before : Session)
    (x : Command) (c : Config) (old new : List ℕ) : Type 0 where
  pub end : Session
  pub front : List ℕ
  pub rest : List ℕ
  pub plays : PlaysOne k moment shows x before end (front ++ rest)
  pub config : c ≡ end.config
  pub written : new ≡ old ++ front

-- the script was played up to this session
pub record IsPlayedTo (k : Circuit) (moment : Config → Option ℕ) (shows : Config → List ℕ → Type 0) (c0 : Config)
    (xs : List Command) (end : Session) (old new : List ℕ) : Type 0 where
  pub text : List ℕ
  pub plays : Plays k moment shows xs (session c0 []) end text
  pub written : new ≡ old ++ text

-- the text has grown by one of these
abbrev pub Grows : (List ℕ → Type 0) → List ℕ → List ℕ → Type 0
Grows IsText old new = (text : List ℕ) × IsText text × (new ≡ old ++ text)

-- the text has grown by a prefix of one of these
pub record GrowsByFront (IsText : List ℕ → Type 0) (old new : List ℕ) : Type 0 where
  pub front : List ℕ
  pub rest : List ℕ
  pub is : IsText (front ++ rest)
  pub written : new ≡ old ++ front

-- ---- on the circuit of a machine

-- the same circuit in another configuration
abbrev pub board_at : Flattened → Config → Flattened
board_at b c = record b { config = c }

-- what views of a circuit may show of its configurations, if they may show this of circuits
abbrev pub shown_on : (Flattened → List ℕ → Type 0) → Flattened → Config → List ℕ → Type 0
shown_on shows b c text = shows (board_at b c) text

-- the script was played on this circuit, or was left within a command
abbrev pub IsPlayed : (Flattened → List ℕ → Type 0) → Flattened → List Command → Config → List ℕ → List ℕ → Type 0
IsPlayed shows b xs c old new =
    IsPlayedFrom (rotary_circuit b.net) (moment_at b.layout) (shown_on shows b) b.config xs c old new

abbrev pub IsStopped : (Flattened → List ℕ → Type 0) → Flattened → List Command → Config → List ℕ → List ℕ → Type 0
IsStopped shows b xs c old new =
    IsStoppedFrom (rotary_circuit b.net) (moment_at b.layout) (shown_on shows b) b.config xs c old new
