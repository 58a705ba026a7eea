-- What is shown of a circuit represents its machine.
use Rattle.std.specs.Prelude.{◌≡◌, ℕ, ◌*◌, ◌≤◌, List, ◌++◌}
use Rattle.bn_lists.specs.Runs.{Reaches}
use Rattle.bn_circuits.specs.Circuits.{clock}
use Rattle.bn_circuits.specs.declared.config.Config.{Config}
use Rattle.bn_quad.specs.Quadruples.{Configuration, QuadruplesRunTo}
use Rattle.bn_qtable.specs.Rows.{QuadTable}
use Rattle.bn_bennett_laws.specs.Stages.{rooms_of}
use Rattle.bn_network.specs.Starts.{start_from}
use Rattle.bn_boards.specs.Layouts.{spelled_config}
use Rattle.bn_boards.specs.Builds.{Build, IsBuild, IsStart, build_elements, start_of}
use Rattle.bn_reply_builds.specs.Outcomes.{drive_tape_lines}
use Rattle.bn_reply_looks.specs.LookText.{state_line}
use Rattle.bn_reply_looks.specs.Looking.{ShowsBuild}
use Rattle.bn_reply_looks.specs.LookReply.{LookIsSettled}
use Rattle.bn_reply_looks.specs.PlayReply.{PlayIsSettled}

-- after its first lines the text shows the state and the tapes of a configuration that some steps of the machine's own
-- run from c in the window reach
pub record TellsRun (t : QuadTable) (f : Build) (c : Configuration ℕ) (text : List ℕ) : Type 0 where
  pub steps : ℕ
  pub config : Configuration ℕ
  pub runs : Reaches (QuadruplesRunTo (rooms_of f.limits) f.machine) steps c config
  pub before : List ℕ
  pub written : text ≡ before ++ (state_line t config.state ++ drive_tape_lines t (spelled_config f.limits config))

-- anywhere in the run of the circuit
abbrev pub LooksTellTheirMachine : Type 0
LooksTellTheirMachine =
    (t : QuadTable) (f : Build) → IsBuild f → 48 * build_elements f ≤ clock → (c : Configuration ℕ)
    → IsStart f c (start_from f.machine f.limits c) (start_of f c) → (d : Config) (text : List ℕ)
    → ShowsBuild t f c d text → TellsRun t f c text

-- ---- the laws

pub record Laws : Type 0 where
  -- `look` has exactly one answer to all words, windows, numbers of steps and bytes.
  pub look_has_one_reply : LookIsSettled
  -- Anywhere in the run of a circuit, the state and the tapes that are shown are those that some steps of the machine's
  -- own run in the window reach.
  pub looks_tell_their_machine : LooksTellTheirMachine
  -- `play` has exactly one answer to all words, windows and bytes.
  pub play_has_one_reply : PlayIsSettled
