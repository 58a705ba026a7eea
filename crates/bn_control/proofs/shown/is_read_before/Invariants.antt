use Rattle.bn_network.specs.Controls.{Reads}
use Rattle.bn_control.specs.Names.{listed}
use Rattle.bn_control.specs.Shown.{IsShownBefore}
use Rattle.bn_control.proofs.shown.is_read_before.Given as goal

abbrev pub invariant-loop-index : goal.invariant-loop-index
invariant-loop-index l = IsShownBefore l.quads l.index (Reads l.from (listed l.before)) → ⊥
