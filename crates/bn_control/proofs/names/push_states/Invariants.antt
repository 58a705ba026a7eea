use Rattle.std.proofs.Common.{◌≡◌, ◌++◌, map, take}
use Rattle.bn_control.specs.declared.command.Command.{Command}
use Rattle.bn_control.proofs.names.push_states.Given as goal

abbrev pub invariant-loop-command : goal.invariant-loop-command
invariant-loop-command l = l.names.items ≡ l.initial.names.items
    ++ map (λ (c : Command). c.sending.state) (take l.command-index l.commands)
