use Rattle.std.proofs.Common.{◌≡◌, ℕ, ◌<◌, Some, slice_get}
use Rattle.bn_realise.specs.Banks.{bottom_at}
use Rattle.bn_realise.proofs.cross.marked_column.Given as goal

abbrev pub invariant-loop-column : goal.invariant-loop-column
invariant-loop-column l = (x : ℕ) → x < l.column → slice_get l.bars (bottom_at l.first l.rows x) ≡ Some 0 → ⊥
