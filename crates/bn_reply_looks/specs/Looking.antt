-- What is shown of a circuit that was built from a table of quadruples, at a configuration of its run from the start
-- (this project's own definition).
use Rattle.std.specs.Prelude.{◌≡◌, ℕ, List, []}
use Rattle.bn_circuits.specs.declared.config.Config.{Config}
use Rattle.bn_circuits.specs.declared.place.Place.{Place}
use Rattle.bn_circuits.specs.declared.place.Place.TheVariants.{Enter}
use Rattle.bn_quad.specs.Quadruples.{Configuration, initial_of}
use Rattle.bn_qtable.specs.Rows.{QuadTable}
use Rattle.bn_boards.specs.Builds.{Build, start_of}
use Rattle.bn_boards.specs.BuildRuns.{HasLeft}
use Rattle.bn_reply_builds.specs.DriveText.{drive_exit_line}
use Rattle.bn_view.specs.Viewed.{IsFoundView}
use Rattle.bn_view.specs.declared.layers.BoardLayers.{BoardLayers}
use Rattle.bn_reply_looks.specs.LookText.{look_text}

-- The line of the exit by which the signal has left, which is that of the machine's own run from c in the window; none
-- if the signal is inside.
pub data IsExitLine (t : QuadTable) (f : Build) (c : Configuration ℕ) (p : Place) (states : List ℕ)
    (line : List ℕ) : Type 0 where
  inside : (e l : ℕ) → p ≡ Enter e l → line ≡ [] → IsExitLine t f c p states line
  outside : (left : HasLeft f c p states) → line ≡ drive_exit_line t left.final left.exit
      → IsExitLine t f c p states line

-- The text shows the circuit of f, started at c, if it has reached d: the place of the signal, or the exit by which it
-- has left; and the state of the last moment that its layout finds, or of the start if there is none, and what the
-- cells show then.
pub record ShowsBuild (t : QuadTable) (f : Build) (c : Configuration ℕ) (d : Config) (text : List ℕ) : Type 0 where
  pub layers : BoardLayers
  pub view : IsFoundView f.layout f.circuit (start_of f c) (initial_of f.machine.rules) d layers
  pub exit : List ℕ
  pub is_exit : IsExitLine t f c d.place d.states exit
  pub written : text ≡ look_text t exit layers
