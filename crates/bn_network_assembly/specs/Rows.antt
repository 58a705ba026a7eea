-- Rows of cells as modules: the vocabulary of the contracts of the functions that add them.
use Rattle.std.specs.Prelude.{◌≡◌, ℕ, List, [], ◌∷◌, ◌++◌, All, length}
use Rattle.bn_machine.specs.Outcome.{Limits}
use Rattle.bn_quad.specs.Quadruples.{Quadruples}
use Rattle.bn_network.specs.Controls.{symbol_count}
use Rattle.bn_network.specs.Networks.{cells_in}
use Rattle.bn_control.specs.Controlled.{Controlled}
use Rattle.bn_network_assembly.specs.declared.module.Module.{Module}
use Rattle.bn_network_assembly.specs.declared.module.Module.TheVariants.{Control, Cell}

-- the module is a cell for z symbols
abbrev pub IsCellFor : ℕ → Module → Type 0
IsCellFor z (Control v) = ⊥
IsCellFor z (Cell c) = c.symbols ≡ z

-- n cells for z symbols were added to these modules
pub record IsRow (old : List Module) (z n : ℕ) (new : List Module) : Type 0 where
  pub row : List Module
  pub count : length row ≡ n
  pub cells : All (IsCellFor z) row
  pub is : new ≡ old ++ row

-- the modules are the control, followed by the rows of the three tapes
pub record AreModules (m : Quadruples) (l : Limits) (v : Controlled) (modules : List Module) : Type 0 where
  pub one : List Module
  pub two : List Module
  pub first : IsRow (Control v ∷ []) (symbol_count m 1) (cells_in l 1) one
  pub second : IsRow one (symbol_count m 2) (cells_in l 2) two
  pub third : IsRow two (symbol_count m 3) (cells_in l 3) modules
