use Rattle.std.proofs.Common.{◌≡◌, ◌++◌, map, take}
use Rattle.bn_control.specs.declared.line.Sending.{Sending}
use Rattle.bn_control.proofs.states.push_awaiting.Given as goal

abbrev pub invariant-loop-entry : goal.invariant-loop-entry
invariant-loop-entry l = l.states.items ≡ l.initial.states.items
    ++ map (λ (s : Sending). s.state) (take l.entry-index l.entries)
