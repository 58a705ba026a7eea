use Rattle.bn_network_assembly.specs.Rows.{IsRow}
use Rattle.bn_network_assembly.proofs.modules.push_row.Given as goal

abbrev pub invariant-loop : goal.invariant-loop
invariant-loop l = IsRow l.fn.modules.items l.symbols l.counter l.modules.items
