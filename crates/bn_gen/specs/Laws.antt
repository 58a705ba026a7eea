-- The laws of this crate, each a field of `Laws`.
use Rattle.std.specs.Prelude.{◌≡◌, ℕ, ◌+◌, ◌*◌, length}
use Rattle.bn_machine.specs.Standard.{IsStandard}
use Rattle.bn_table.specs.Rows.{FitsTable}
use Rattle.bn_gen.specs.Increments.{IsRoundCount, incrementer}
use Rattle.bn_gen.specs.declared.machine.TheConstants.{MOST_INCREMENTS}

-- k increments have 9k + 1 quintuples and 3k + 2 states
abbrev pub AreCounted : Type 0
AreCounted =
    (k : ℕ) → IsRoundCount k
    → (length (incrementer k).quints ≡ 9 * k + 1) × ((incrementer k).states ≡ 3 * k + 2)

-- the machine is in standard form
abbrev pub AreStandard : Type 0
AreStandard = (k : ℕ) → IsRoundCount k → IsStandard (incrementer k).quints

-- the machine fits a table: its states are numbered by first appearance and each of them appears
abbrev pub FitTables : Type 0
FitTables = (k : ℕ) → IsRoundCount k → FitsTable (incrementer k)

-- ---- the laws

pub record Laws : Type 0 where
  -- The machine of k increments has 9k + 1 quintuples and 3k + 2 states.
  pub increments_are_counted : AreCounted
  -- The machine of k increments is in standard form.
  pub increments_are_standard : AreStandard
  -- The machine of k increments fits a table: its states are numbered by first appearance and each appears.
  pub increments_fit_tables : FitTables
  -- The most increments are 4.
  pub most_increments_are_stated : MOST_INCREMENTS ≡ 4
