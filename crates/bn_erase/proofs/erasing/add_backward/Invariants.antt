use Rattle.std.proofs.Common.{◌≡◌, ◌++◌, map, take}
use Rattle.bn_erase.specs.Numbered.{backward_quad}
use Rattle.bn_erase.proofs.erasing.add_backward.Given as goal

abbrev pub invariant-loop-quad : goal.invariant-loop-quad
invariant-loop-quad l = l.quads.items ≡ l.initial.quads.items
    ++ map (backward_quad l.meeting) (take l.quad-index l.others)
