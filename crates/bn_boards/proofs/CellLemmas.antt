-- Where the banks of the tapes' cells lie on a board.
use Rattle.std.specs.Prelude.{◌≡◌, ℕ, ◌+◌, ◌<◌, List, [], ◌∷◌, length, Some, slice_get}
use Rattle.bn_circuits.specs.Circuits.{Circuit}
use Rattle.bn_machine.specs.Outcome.{Limits}
use Rattle.bn_quad.specs.Quadruples.{Quadruples, quadruples_of}
use Rattle.bn_network.specs.Cells.{cell_table}
use Rattle.bn_network.specs.Controls.{ControlState, symbol_count}
use Rattle.bn_network.specs.Networks.{IsNetwork, IsTape, cells_in, first_cell}
use Rattle.bn_boards.proofs.ReadingLemmas.{of_parts}
use Rattle.bn_boards.specs.Boards.{base}
use Rattle.bn_boards.specs.Layouts.{Layout, IsLayout, cell_element}
use Rattle.bn_boards.proofs.TabledLemmas.{has_cell, cell_base}

module _ (l : Limits) (names : List ControlState) (n : Circuit) where
  -- each cell's table and its bank's first element
  abbrev pub CellsLie : Quadruples → Layout → Type 0
  CellsLie m b = IsNetwork m l names n → (t p : ℕ) → IsTape t → p < cells_in l t
      → (slice_get n.tables (first_cell l t + p) ≡ Some (cell_table (symbol_count m t)))
      × (base n.tables (first_cell l t + p) ≡ cell_element b t p)

  -- where the machine and the layout are given by their parts
  by_parts : (x y z : ℕ) (m : Quadruples) (b : Layout)
      → CellsLie (quadruples_of m.rules m.states (x ∷ y ∷ z ∷ []))
      (record {
        limits = l;
        symbols = x ∷ y ∷ z ∷ [];
        states = length names;
        firsts = b.firsts;
        awaited = b.awaited;
      })
  by_parts x y z m b network t p tape low = (
    has_cell m.rules m.states x y z l names n b.firsts b.awaited network t p tape low,
    cell_base m.rules m.states x y z l names n b.firsts b.awaited network t p tape low,
  )

  -- of any machine with three numbers of symbols
  pub cells_lie : (x y z : ℕ) (m : Quadruples) (b : Layout) → m.symbols ≡ x ∷ y ∷ z ∷ [] → IsLayout m l names b
      → CellsLie m b
  cells_lie x y z m b symbols kept = of_parts (x ∷ y ∷ z ∷ []) l names CellsLie (by_parts x y z) m b symbols kept
