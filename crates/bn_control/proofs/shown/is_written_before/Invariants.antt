use Rattle.bn_network.specs.Controls.{Writes}
use Rattle.bn_control.specs.Names.{listed}
use Rattle.bn_control.specs.Shown.{IsShownBefore}
use Rattle.bn_control.proofs.shown.is_written_before.Given as goal

abbrev pub invariant-loop-index : goal.invariant-loop-index
invariant-loop-index l = IsShownBefore l.quads l.index (Writes l.to l.tape (listed l.rest)) → ⊥
