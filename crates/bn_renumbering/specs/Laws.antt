-- Machines of quadruples that are written with names and read again, and renumbered machines. `Laws` at the end is
-- the contract of `renumbering_laws`.
use Rattle.std.specs.Prelude.{◌≡◌, ℕ, ◌≤◌, List, length}
use Rattle.bn_csv.specs.Lines.{lines_of}
use Rattle.bn_quad.specs.Names.{Naming}
use Rattle.bn_quad.specs.Quadruples.{Configuration, Quadruples, IsQuadMachine, Rooms, final_state_of, inverse_of}
use Rattle.bn_quad.specs.Overlap.{IsDeterministic, IsReversible}
use Rattle.bn_quad.specs.Calls.{IsUniformMachine}
use Rattle.bn_qtable.specs.Named.{HasNames}
use Rattle.bn_qtable.specs.Reading.{ReadsQuadruples}
use Rattle.bn_qtable.specs.Rows.{QuadTable, quadruple_rows_by}
use Rattle.bn_qtable.specs.declared.entry.TheConstants.{MOST_ENTRIES}
use Rattle.bn_bennett_laws.specs.Stages.{IsStandardMachine}
use Rattle.bn_bennett_laws.specs.Steps.{Exit, HasExit}
use Rattle.bn_erase.specs.Joint.{Joint, IsJoint}
use Rattle.bn_erase.specs.Made.{Erasure, IsErasing}
use Rattle.bn_erase.specs.Printed.{names_of}
use Rattle.bn_renumbering.specs.Renumbering.{AreTableNames, Renumbering, IsRenumbering, ReadsBack, IsConfigurationOf}
use Rattle.bn_renumbering.specs.Renumbering.{IsRenumbered}

-- ---- renumbered machines

abbrev pub RenumberingsPassTests : Type 0
RenumberingsPassTests = (k : Renumbering) (p m : Quadruples) → IsRenumbering k p m
    → (IsDeterministic m.rules → IsDeterministic p.rules) × (IsReversible m.rules → IsReversible p.rules)

abbrev pub RenumberingsAreUniform : Type 0
RenumberingsAreUniform =
    (k : Renumbering) (p m : Quadruples) → IsQuadMachine p → IsRenumbering k p m → IsUniformMachine m
    → IsUniformMachine p

-- runs from the configuration c of p, which is x with the new numbers
abbrev pub RenumberingsRunAlike : Type 0
RenumberingsRunAlike =
    (k : Renumbering) (p m : Quadruples) → IsQuadMachine p → IsRenumbering k p m → IsDeterministic m.rules
    → (rooms : Rooms) (n : ℕ) (c x : Configuration ℕ) (e : Exit) → IsConfigurationOf p c → IsRenumbered k c x
    → ((d : Configuration ℕ) → HasExit rooms p.rules (final_state_of p.rules) n c d e
    → (y : Configuration ℕ) × HasExit rooms m.rules (final_state_of m.rules) n x y e × IsRenumbered k d y)
    × ((y : Configuration ℕ) → HasExit rooms m.rules (final_state_of m.rules) n x y e
    → (d : Configuration ℕ) × HasExit rooms p.rules (final_state_of p.rules) n c d e × IsRenumbered k d y)

-- ---- machines that are written and read

-- the text is read as a table, and its machine is the one that was written, up to the numbers
abbrev pub WrittenMachinesReadBack : Type 0
WrittenMachinesReadBack =
    (m : Quadruples) (names : Naming) (text : List ℕ) → IsQuadMachine m → HasNames m names → AreTableNames names
    → length m.rules ≤ MOST_ENTRIES → text ≡ lines_of (quadruple_rows_by names m.rules)
    → (t : QuadTable) × ReadsQuadruples text t × ReadsBack m names t

abbrev pub ErasingsAreTables : Type 0
ErasingsAreTables =
    (j : Joint) (e : Erasure) (text : List ℕ) → IsJoint j → IsErasing j.first j.second e
    → length e.machine.rules ≤ MOST_ENTRIES → text ≡ lines_of (quadruple_rows_by (names_of j e) e.machine.rules)
    → (t : QuadTable) × ReadsQuadruples text t × ReadsBack e.machine (names_of j e) t
    × (IsStandardMachine j.first → IsStandardMachine j.second → IsUniformMachine t.machine)

abbrev pub InversesAreTables : Type 0
InversesAreTables =
    (bytes text : List ℕ) (t : QuadTable) → ReadsQuadruples bytes t
    → text ≡ lines_of (quadruple_rows_by t.names (inverse_of t.machine).rules)
    → (u : QuadTable) × ReadsQuadruples text u × ReadsBack (inverse_of t.machine) t.names u
    × (IsReversible t.machine.rules → IsDeterministic u.machine.rules)
    × (IsDeterministic t.machine.rules → IsReversible u.machine.rules)
    × (IsUniformMachine t.machine → IsUniformMachine u.machine)

-- ---- the laws

pub record Laws : Type 0 where
  -- A machine is deterministic if its renumbered machine is, and reversible if its renumbered machine is.
  pub renumberings_pass_tests : RenumberingsPassTests
  -- A machine is uniform if its renumbered machine is.
  pub renumberings_are_uniform : RenumberingsAreUniform
  -- A machine and its deterministic renumbered machine have the same runs in any rooms: as many steps, the same exit,
  -- and final configurations that differ only in the numbers.
  pub renumberings_run_alike : RenumberingsRunAlike
  -- The text of a machine of at most 20,000 quadruples, with well-formed distinct names, is read as a table of that
  -- machine, up to the numbers, with every name kept.
  pub written_machines_read_back : WrittenMachinesReadBack
  -- The text of an erasing machine of at most 20,000 quadruples is read as a table of it, up to the numbers, uniform
  -- if both machines are in standard form.
  pub erasings_are_tables : ErasingsAreTables
  -- With its names, the inverse of a table's machine is read back up to the numbers: deterministic if the machine is
  -- reversible, reversible if it is deterministic, uniform if it is uniform.
  pub inverses_are_tables : InversesAreTables
