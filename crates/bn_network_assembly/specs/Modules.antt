-- The modules of a network as elements: the control or a tape cell.
use Rattle.bn_element.specs.Tables.{Table}
use Rattle.bn_rsm.specs.Machines.{machine_table}
use Rattle.bn_network.specs.Cells.{cell_table}
use Rattle.bn_network_assembly.specs.declared.module.Module.{Module}
use Rattle.bn_network_assembly.specs.declared.module.Module.TheVariants.{Control, Cell}

abbrev pub module_table : Module → Table
module_table (Control v) = machine_table v.machine
module_table (Cell c) = cell_table c.symbols
