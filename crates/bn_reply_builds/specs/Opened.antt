-- The result of opening bytes, words on the tapes and a window as the circuit of a machine of quadruples.
use Rattle.std.specs.Prelude.{◌≡◌, ℕ, List, []}
use Rattle.bn_machine.specs.Outcome.{Limits}
use Rattle.bn_circuits.specs.RotaryNets.{rotary_circuit}
use Rattle.bn_quad.specs.Names.{Naming}
use Rattle.bn_quad.specs.Quadruples.{Configuration, Quadruples}
use Rattle.bn_qtable.specs.Reading.{ReadsQuadruples}
use Rattle.bn_qtable.specs.Rows.{table_of}
use Rattle.bn_qtable.specs.TapeWords.{TapeWords}
use Rattle.bn_network.specs.Starts.{AreInputs, start_from, words_on}
use Rattle.bn_boards.specs.Boards.{board_start}
use Rattle.bn_board.specs.Flattened.{Flattened, IsBoardKept, end_line, start_line}
use Rattle.bn_boards.specs.Builds.{Build, IsBuild, IsStart}
use Rattle.bn_reply_machines.specs.NamedWords.{AreNamedBy}
use Rattle.bn_reply_boards.specs.declared.opening.OpenedWindow.{OpenedWindow}
use Rattle.bn_reply_boards.specs.declared.opening.OpenedWindow.TheVariants as windows
use Rattle.bn_reply_builds.specs.BuildReply.{BuiltReplies, IsBuiltFor, IsUncrowded, SizedReplies}
use Rattle.bn_reply_builds.specs.Buildable.{IsBuildable}
use Rattle.bn_reply_builds.specs.declared.opening.OpenedBuild.{OpenedBuild}
use Rattle.bn_reply_builds.specs.declared.opening.OpenedBuild.TheVariants as opened

-- this is the circuit of f at the start of the configuration c
pub record IsBuiltBoard (f : Build) (c : Configuration ℕ) (b : Flattened) : Type 0 where
  pub build : IsBuild f
  pub circuit : f.circuit ≡ rotary_circuit b.net
  pub layout : f.layout ≡ b.layout
  pub config : b.config ≡ board_start f.network.tables (start_from f.machine f.limits c)
  pub begins : IsStart f c (start_from f.machine f.limits c) b.config
  pub start : b.start ≡ start_line
  pub end : b.end ≡ end_line b.layout
  pub kept : IsBoardKept b

-- No tape of the machine has too many symbols, the words of these symbols fit, and the circuit, which does not have too
-- many elements, is the machine's, at its start with them.
pub record IsSizedBoard (m : Quadruples) (l : Limits) (one two three : List ℕ) (b : Flattened) : Type 0 where
  pub uncrowded : IsUncrowded m
  pub inputs : AreInputs m l one two three
  pub build : Build
  pub built : IsBuiltFor m l build
  pub board : IsBuiltBoard build (words_on m one two three) b

-- the circuit, or the answer to words of these symbols for every report on circuits
abbrev pub IsOpenedSized : TapeWords → Quadruples → Limits → List ℕ → List ℕ → List ℕ → OpenedWindow → Type 0
IsOpenedSized words m l one two three (windows.Made b) = IsSizedBoard m l one two three b
IsOpenedSized words m l one two three (windows.Refused reply) =
    SizedReplies words (λ f status text told. ⊥) m l one two three reply.status reply.text.items []

-- The bytes are the table of this machine and these names; the machine is uniform, and none of its tapes has too many
-- symbols; the words have the names of these symbols, and fit; and the circuit, which does not have too many elements,
-- is the machine's, at its start with the words.
pub record IsBuildAsked (words : TapeWords) (l : Limits) (bytes : List ℕ) (m : Quadruples) (names : Naming)
    (b : Flattened) : Type 0 where
  pub table : ReadsQuadruples bytes (table_of m names)
  pub buildable : IsBuildable m
  pub one : List ℕ
  pub two : List ℕ
  pub three : List ℕ
  pub named : AreNamedBy words names one two three
  pub uncrowded : IsUncrowded m
  pub inputs : AreInputs m l one two three
  pub build : Build
  pub built : IsBuiltFor m l build
  pub board : IsBuiltBoard build (words_on m one two three) b

-- the circuit, or the answer for every report on circuits
abbrev pub IsOpenedBuild : TapeWords → Limits → List ℕ → OpenedBuild → Type 0
IsOpenedBuild words l bytes (opened.Made m names b) = IsBuildAsked words l bytes m names b
IsOpenedBuild words l bytes (opened.Refused reply) =
    BuiltReplies (λ t one two three f status text told. ⊥) words l bytes reply.status reply.text.items []
