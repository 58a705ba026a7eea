-- By the table's invariant.
use Rattle.bn_table.proofs.Bounds.{fits_table}
use Rattle.bn_table.proofs.table.Table.machine.Goals as goal

pub returns-clause-fits : goal.returns-clause-fits
returns-clause-fits c = rw (← c.self.view_is) (fits_table _ c.self.invariant)
