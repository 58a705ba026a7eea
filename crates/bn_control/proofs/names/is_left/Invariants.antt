use Rattle.std.proofs.Common.{◌≡◌, ℕ, ◌<◌, Some, slice_get}
use Rattle.bn_quad.specs.declared.quad.Quad.{Quad}
use Rattle.bn_control.proofs.names.is_left.Given as goal

abbrev pub invariant-loop-quad : goal.invariant-loop-quad
invariant-loop-quad l = (i : ℕ) (q : Quad) → i < l.quad-index → slice_get l.quads i ≡ Some q → q.state ≡ l.state → ⊥
