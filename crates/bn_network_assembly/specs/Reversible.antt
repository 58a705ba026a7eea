-- The proof that each module's table is reversible, which each element passes to the trait.
use Rattle.bn_element.specs.Tables.{IsReversible}
use Rattle.bn_rsm.specs.Machines.{machine_table-IsReversible}
use Rattle.bn_cell.specs.Reversible.{cells-reversible}
use Rattle.bn_network_assembly.specs.Modules.{module_table}
use Rattle.bn_network_assembly.specs.declared.module.Module.{Module}
use Rattle.bn_network_assembly.specs.declared.module.Module.TheVariants.{Control, Cell}

pub modules-reversible : (x : Module) → IsReversible (module_table x)
modules-reversible (Control v) = machine_table-IsReversible v.machine
modules-reversible (Cell c) = cells-reversible c.symbols
