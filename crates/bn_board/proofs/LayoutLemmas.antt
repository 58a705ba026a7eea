-- Sizes and elements of a layout are within the greatest number of elements.
use Rattle.std.specs.Prelude.{ℕ, ◌+◌, ◌*◌, ◌<◌, ◌≤◌, ◌^◌}
use Rattle.std.proofs.Common.{zero, suc, arith}
use Rattle.std.proofs.Math.Nat.{mul-le-mul_right, mul-le-mul_left}
use Rattle.bn_network.specs.Networks.{cell_size, cells_in}
use Rattle.bn_boards.specs.Layouts.{Layout, symbol_count_at, lines_at, first_element, cell_element, elements_of}
use Rattle.bn_network.specs.declared.limits.TheConstants.{MOST_SYMBOLS}
use Rattle.bn_circuits.specs.declared.net.TheConstants.{MOST_ELEMENTS}
use Rattle.bn_board.specs.Flattened.{IsLayoutKept}

-- a product of bounded numbers
pub product_within : (x y a b : ℕ) → x ≤ a → y ≤ b → x * y ≤ a * b
product_within x y a b first second = let one : x * y ≤ a * y = mul-le-mul_right y first in let two : a * y ≤ a * b =
    mul-le-mul_left a second in omega arith

-- a cell's elements
pub cell_small : (z : ℕ) → z ≤ MOST_SYMBOLS → 2 * z * (2 * z + 8 + 1) < 2 ^ 32
cell_small z few = let h : 2 * z * (2 * z + 8 + 1) ≤ 8002 * 8011 =
    product_within (2 * z) (2 * z + 8 + 1) 8002 8011 (omega arith) (omega arith) in omega arith

module _ (b : Layout) (kept : IsLayoutKept b) where
  pub control_within : b.states * (lines_at b + 1) ≤ MOST_ELEMENTS
  control_within = let few = kept.few_elements in omega arith

  pub row_within : (t : ℕ) → 1 ≤ t → t ≤ 3 → first_element b t + cells_in b.limits t * cell_size (symbol_count_at b t)
      ≤ elements_of b
  row_within zero low high = absurd (omega arith)
  row_within (suc zero) low high = omega arith
  row_within (suc (suc zero)) low high = omega arith
  row_within (suc (suc (suc zero))) low high = omega arith
  row_within (suc (suc (suc (suc t)))) low high = absurd (omega arith)

  pub row_few : (t : ℕ) → 1 ≤ t → t ≤ 3 → cells_in b.limits t * cell_size (symbol_count_at b t) ≤ MOST_ELEMENTS
  row_few t low high = let few = kept.few_elements in let row = row_within t low high in omega arith

  pub first_within : (t : ℕ) → 1 ≤ t → t ≤ 4 → first_element b t ≤ MOST_ELEMENTS
  first_within zero low high = absurd (omega arith)
  first_within (suc zero) low high = let few = kept.few_elements in omega arith
  first_within (suc (suc zero)) low high = let few = kept.few_elements in omega arith
  first_within (suc (suc (suc zero))) low high = let few = kept.few_elements in omega arith
  first_within (suc (suc (suc (suc zero)))) low high = let few = kept.few_elements in omega arith
  first_within (suc (suc (suc (suc (suc t))))) low high = absurd (omega arith)

  pub cell_within : (t p : ℕ) → 1 ≤ t → t ≤ 3 → p < cells_in b.limits t
      → cell_element b t p + cell_size (symbol_count_at b t) ≤ elements_of b
  cell_within t p low high within =
      let row = row_within t low high in
      let h : (p + 1) * cell_size (symbol_count_at b t) ≤ cells_in b.limits t * cell_size (symbol_count_at b t) =
      mul-le-mul_right (cell_size (symbol_count_at b t))
      (omega arith) in
      omega arith
