-- The report of the circuit built from what `erase` prints: the circuit that erases its input (Bennett 1973, his last
-- construction; the text and its reading are this project's own profile).
use Rattle.std.specs.Prelude.{◌≡◌, ℕ, ◌+◌, ◌*◌, List, length, ◌⊎◌}
use Rattle.bn_circuits.specs.Situations.{Situation}
use Rattle.bn_circuits.specs.declared.config.Config.{Config}
use Rattle.bn_machine.specs.declared.quint.Side.{Side}
use Rattle.bn_quad.specs.Quadruples.{Configuration}
use Rattle.bn_bennett_laws.specs.Laws.{HaltsAfter}
use Rattle.bn_bennett_laws.specs.Steps.{Finished, Leaving}
use Rattle.bn_erase.specs.Joint.{Joint}
use Rattle.bn_erase.specs.Laws.{end_of}
use Rattle.bn_erase.specs.Made.{Erasure}
use Rattle.bn_renumbering.specs.Renumbering.{Renumbering, IsRenumbered}
use Rattle.bn_boards.specs.Builds.{Build}
use Rattle.bn_boards.specs.Laws.{Told}

-- The circuit, started at c with the word x on tape 1, has stopped at d after n element steps. If the signal left by
-- the end, the first machine halts on x with some output y and the second on y with the output x, the erasing machine
-- has made 4(v + w) + 4(|x| + |y|) + 10 steps, and its tapes are blank but for y on tape 3, up to renumbering; and if
-- both machines halt so, the signal left by the end or by the line at a window's end.
pub record ErasingBoardTells (k : Renumbering) (j : Joint) (e : Erasure) (f : Build) (c : Configuration ℕ)
    (s : Situation) (at_start : Config) (x : List ℕ) (n : ℕ) (d : Config) : Type 0 where
  pub told : Told f c s at_start n d
  pub ended : told.exit ≡ Finished → (v w : ℕ) × (y : List ℕ) × HaltsAfter j.first x v y × HaltsAfter j.second y w x
      × (told.steps ≡ 4 * (v + w) + 4 * (length x + length y) + 10) × IsRenumbered k told.final (end_of e y)
  pub halted : (v w : ℕ) (y : List ℕ) → HaltsAfter j.first x v y → HaltsAfter j.second y w x
      → (told.exit ≡ Finished) ⊎ ((tape : ℕ) × (side : Side) × (told.exit ≡ Leaving tape side))
