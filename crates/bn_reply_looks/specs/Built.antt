-- What holds of a circuit that was built from a table of quadruples, anywhere in its run.
use Rattle.std.specs.Prelude.{◌≡◌, ℕ, ◌*◌, ◌≤◌, List, [], length}
use Rattle.bn_circuits.specs.Circuits.{clock}
use Rattle.bn_circuits.specs.declared.place.Place.TheVariants.{Enter}
use Rattle.bn_circuits.specs.RotaryNets.{rotary_circuit}
use Rattle.bn_quad.specs.Names.{Naming}
use Rattle.bn_quad.specs.Quadruples.{Configuration, Quadruples}
use Rattle.bn_qtable.specs.Rows.{QuadTable, counts_of, table_of}
use Rattle.bn_bennett_laws.specs.Steps.{Exit}
use Rattle.bn_network.specs.Starts.{FitsWindow, start_from}
use Rattle.bn_board.specs.Flattened.{Flattened, origin}
use Rattle.bn_boards.specs.Builds.{Build, IsBuild, IsStart, build_elements, start_of}
use Rattle.bn_boards.specs.Exits.{BoardLeaves}
use Rattle.bn_reply_builds.specs.DriveText.{drive_exit_line}
use Rattle.bn_reply_builds.specs.Stopping.{HasFewSymbols}
use Rattle.bn_reply_looks.specs.Looking.{ShowsBuild}

-- the circuit is that of f, which this machine determines, and was built at the start of c
pub record IsRunOf (m : Quadruples) (f : Build) (c : Configuration ℕ) (b : Flattened) : Type 0 where
  pub build : IsBuild f
  pub machine : f.machine ≡ m
  pub room : 48 * build_elements f ≤ clock
  pub circuit : f.circuit ≡ rotary_circuit b.net
  pub layout : f.layout ≡ b.layout
  pub begins : IsStart f c (start_from f.machine f.limits c) (start_of f c)
  pub start : origin b ≡ start_of f c

-- The text is empty if the signal is inside. If it has left, the text is the line of its exit, for every build that the
-- circuit belongs to.
pub record IsExitText (t : QuadTable) (b : Flattened) (text : List ℕ) : Type 0 where
  pub inside : (e l : ℕ) → b.config.place ≡ Enter e l → text ≡ []
  pub left : (f : Build) (d : Configuration ℕ) (e : Exit) → IsBuild f → f.machine ≡ t.machine → f.layout ≡ b.layout
      → FitsWindow f.machine f.limits d → BoardLeaves f b.config.place b.config.states d e
      → text ≡ drive_exit_line t d e

-- the names are those of the machine's states and symbols, and no tape has more symbols than a cell can distinguish
pub record AreNames (m : Quadruples) (names : Naming) : Type 0 where
  pub states : m.states ≡ length names.states
  pub symbols : m.symbols ≡ counts_of names
  pub few : HasFewSymbols m

-- the circuit is one that this machine determines, and these are its names
pub record CanBeShown (m : Quadruples) (names : Naming) (b : Flattened) : Type 0 where
  pub named : AreNames m names
  pub build : Build
  pub start : Configuration ℕ
  pub run : IsRunOf m build start b

-- the text shows the circuit, for every build and every start that it belongs to
abbrev pub ShowsRun : Quadruples → Naming → Flattened → List ℕ → Type 0
ShowsRun m names b text =
    (f : Build) (c : Configuration ℕ) → IsRunOf m f c b → ShowsBuild (table_of m names) f c b.config text
