use Rattle.std.proofs.Common.{◌≡◌, ◌++◌, map, take}
use Rattle.bn_control.specs.declared.named.NamedMove.{NamedMove}
use Rattle.bn_control.proofs.states.push_moving.Given as goal

abbrev pub invariant-loop-step : goal.invariant-loop-step
invariant-loop-step l = l.states.items ≡ l.initial.states.items
    ++ map (λ (x : NamedMove). x.state) (take l.step-index l.moves)
