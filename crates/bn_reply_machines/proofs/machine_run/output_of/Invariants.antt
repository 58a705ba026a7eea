-- The letters so far stand behind the head, and the window has room for so many only.
use Rattle.std.proofs.Common.{◌-◌, length}
use Rattle.bn_reply_machines.proofs.OutputLemmas.{HasRead}
use Rattle.bn_reply_machines.proofs.machine_run.output_of.Given as goal

abbrev pub invariant-loop-symbol : goal.invariant-loop-symbol
invariant-loop-symbol l = HasRead l.tape l.position l.output.items

abbrev pub decreases-loop-symbol : goal.decreases-loop-symbol
decreases-loop-symbol l = 4194305 - length l.output.items
