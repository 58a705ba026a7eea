-- What the circuit reports of a machine that was written with names and read again, so that it has other numbers (this
-- project's own profile).
use Rattle.std.specs.Prelude.{ℕ}
use Rattle.bn_circuits.specs.Situations.{Situation}
use Rattle.bn_circuits.specs.declared.config.Config.{Config}
use Rattle.bn_quad.specs.Quadruples.{Configuration, Quadruples, final_state_of}
use Rattle.bn_bennett_laws.specs.Stages.{rooms_of}
use Rattle.bn_bennett_laws.specs.Steps.{HasExit}
use Rattle.bn_renumbering.specs.Renumbering.{Renumbering, IsRenumbered}
use Rattle.bn_boards.specs.Builds.{Build}
use Rattle.bn_boards.specs.Laws.{Told}

-- The report of the circuit of the machine m, whose configuration x is c with other numbers: how its own machine's run
-- from c has ended, and that the run of m from x has ended in the same way, after as many steps, and where.
pub record TellsRenumbered (k : Renumbering) (f : Build) (m : Quadruples) (c x : Configuration ℕ) (s : Situation)
    (at_start : Config) (t : ℕ) (z : Config) : Type 0 where
  pub told : Told f c s at_start t z
  pub final : Configuration ℕ
  pub ends : HasExit (rooms_of f.limits) m.rules (final_state_of m.rules) told.steps x final told.exit
  pub alike : IsRenumbered k told.final final
