-- Erasing machines exist.
use Rattle.std.specs.Prelude.{◌≡◌}
use Rattle.bn_machine.specs.Machine.{Program}
use Rattle.bn_table.specs.Rows.{FitsTable}
use Rattle.bn_bennett_laws.specs.Stages.{IsStandardMachine}
use Rattle.bn_erase.specs.Made.{Erasure, IsErasing}

abbrev pub ErasingsAreThere : Type 0
ErasingsAreThere =
    (p q : Program) → IsStandardMachine p → IsStandardMachine q → FitsTable p → FitsTable q → p.symbols ≡ q.symbols
    → (e : Erasure) × IsErasing p q e
