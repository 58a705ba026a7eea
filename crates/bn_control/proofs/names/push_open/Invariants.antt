use Rattle.std.proofs.Common.{◌≡◌, List, ◌++◌}
use Rattle.bn_control.specs.declared.name.StateName.{StateName}
use Rattle.bn_control.specs.Listed.{AreOpen}
use Rattle.bn_control.proofs.names.push_open.Given as goal

abbrev pub invariant-loop-state : goal.invariant-loop-state
invariant-loop-state l = (opened : List StateName) × AreOpen l.machine l.state opened
    × (l.names.items ≡ l.initial.names.items ++ opened)
