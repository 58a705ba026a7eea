use Rattle.std.proofs.Common.{◌≡◌, ℕ, ◌+◌, List, ◌++◌, drop, map}
use Rattle.bn_quad.specs.Quadruples.{Rule}
use Rattle.bn_quad.specs.Kept.{quad_of}
use Rattle.bn_control.specs.Listed.{names_from}
use Rattle.bn_control.proofs.names.push_quads.Given as goal

abbrev pub invariant-loop-index : goal.invariant-loop-index
invariant-loop-index l = (rs : List (Rule ℕ)) → l.quads ≡ map quad_of rs
    → l.names.items ++ names_from (l.index + 1) (drop l.index rs) ≡ l.initial.names.items ++ names_from 1 rs
