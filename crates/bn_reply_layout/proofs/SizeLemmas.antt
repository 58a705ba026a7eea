-- Sizes of cells are small.
use Rattle.std.specs.Prelude.{ℕ, ◌+◌, ◌*◌, ◌≤◌}
use Rattle.std.proofs.Common.{arith}
use Rattle.bn_network.specs.declared.limits.TheConstants.{MOST_SYMBOLS}
use Rattle.bn_board.proofs.LayoutLemmas.{product_within}

-- a cell's elements
pub cell_small : (z : ℕ) → z ≤ MOST_SYMBOLS → 2 * z * (2 * z + 9) ≤ 8002 * 8011
cell_small z few = product_within (2 * z) (2 * z + 9) 8002 8011 (omega arith) (omega arith)

-- those of a row of cells
pub row_small : (n s : ℕ) → n ≤ 2097153 → s ≤ 8002 * 8011 → n * s ≤ 2097153 * (8002 * 8011)
row_small n s few small = product_within n s 2097153 (8002 * 8011) few small
