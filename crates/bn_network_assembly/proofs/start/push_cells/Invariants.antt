use Rattle.std.proofs.Common.{◌≡◌, ◌++◌}
use Rattle.std.specs.Prelude.{map}
use Rattle.std.specs.List.{range_with_len}
use Rattle.bn_network_assembly.specs.Starting.{start_state}
use Rattle.bn_network_assembly.proofs.start.push_cells.Given as goal

abbrev pub invariant-loop-cell : goal.invariant-loop-cell
invariant-loop-cell l = l.states.items ≡ l.fn.states.items ++ map (start_state l.symbols l.left l.word)
    (range_with_len 0 l.cell)
