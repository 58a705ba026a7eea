-- The machine that is made of a cell's moves.
use Rattle.std.proofs.Common.{◌≡◌, ℕ, ◌+◌, ◌*◌, ◌<◌, ◌≤◌, ◌^◌, List, length, map, refl, sym, ap, subst, ◌∙◌, arith}
use Rattle.std.proofs.Math.Nat.{mul-le-mul}
use Rattle.bn_element.specs.Tables.{go_by}
use Rattle.bn_rsm.specs.Machines.{Machine, move_of, AreSound, IsMadeOf}
use Rattle.bn_rsm.specs.declared.rsm_move.RsmMove.{RsmMove}
use Rattle.bn_network.specs.Cells.{cell_table}
use Rattle.bn_cell.specs.Sizes.{IsCellSize, IsCellOf}
use Rattle.bn_cell.specs.Reversible.{cells-reversible}
use Rattle.bn_cell.specs.Rows.{rows}
use Rattle.bn_rsm.proofs.ListingLemmas.{moves_sound, moves_go}
use Rattle.bn_cell.proofs.RowLemmas.{rows_moves}
use Rattle.bn_cell.proofs.CountLemmas.{moves_counted}

module _ (z : ℕ) (size : IsCellSize z) (ms : List RsmMove) (is : ms ≡ rows (cell_table z) (2 * z)) where
  -- the moves are so many
  pub counted : length ms ≡ z * (2 * z + 8) + 4 * z
  counted = let some = size.some in ap length is ∙ moves_counted z (omega arith)

  -- and few enough
  pub few : length ms < 2 ^ 32
  few =
      let few = size.few in
      let most : 2 * z + 8 ≤ 8010 = omega arith in
      let product : z * (2 * z + 8) ≤ 4001 * 8010 = mul-le-mul few most in
      omega (arith, counted)

  -- they are sound
  pub sound : AreSound (2 * z) (2 * z + 8) ms
  sound = subst (λ l. AreSound (2 * z) (2 * z + 8) l) (sym is)
      (moves_sound (cell_table z) (cells-reversible z) (rows (cell_table z) (2 * z)) refl
      (rows_moves (cell_table z) (cells-reversible z)))

  -- and make the cell
  pub is_cell : (m : Machine) → IsMadeOf m (2 * z) (2 * z + 8) ms → IsCellOf z m
  is_cell m made = record {
    states = made.states;
    lines = made.lines;
    goes = λ q i. ap (λ l. go_by (map move_of l) q i) (made.moves ∙ is)
        ∙ moves_go (cell_table z) (cells-reversible z) (rows (cell_table z) (2 * z))
        (rows_moves (cell_table z) (cells-reversible z)) q i;
    moves = ap length made.moves ∙ counted;
  }
