-- The readings of the network of any uniform machine from its circuit.
use Rattle.std.specs.Prelude.{◌≡◌, ◌↔◌, ℕ, ◌+◌, ◌<◌, Bool, false, List, All, length, Some, slice_get}
use Rattle.bn_circuits.specs.Circuits.{Circuit}
use Rattle.bn_circuits.specs.Situations.{Situation}
use Rattle.bn_circuits.specs.declared.place.Place.TheVariants.{Enter, Left}
use Rattle.bn_circuits.specs.declared.config.Config.{Config}
use Rattle.bn_element.specs.Rotary.{west}
use Rattle.bn_machine.specs.Outcome.{Limits}
use Rattle.bn_quad.specs.Quadruples.{Quadruples, Configuration}
use Rattle.bn_realise.specs.Banks.{column_at}
use Rattle.bn_network.specs.Cells.{cell_table}
use Rattle.bn_network.specs.Controls.{ControlState, symbol_count}
use Rattle.bn_network.specs.Networks.{IsTape, ShowsAllCells, cells_in, first_cell, network_start, elements_by}
use Rattle.bn_network.specs.Moments.{IsMoment, IsMomentOf, TellsMoments, HasHeads}
use Rattle.bn_boards.specs.Boards.{AreModules, StandsFor, IsAmid, IsLoose, board_start, base, size}
use Rattle.bn_boards.specs.Builds.{IsUniformNetwork}
use Rattle.bn_boards.specs.Layouts.{Layout, IsLayout, is_moment, moment_at, elements_of, symbol_count_at, lines_at}
use Rattle.bn_boards.specs.Layouts.{cell_element, end_place, cell_output, spelled_by, spelled_config}

-- The numbers of network and circuit agree, places and cells correspond, a test recognises the moments of both, and
-- the start has one head per tape.
pub record NetworkReads (m : Quadruples) (l : Limits) (word : List ℕ) (names : List ControlState) (n : Circuit)
    (b : Layout) (test : Situation → Bool) : Type 0 where
  pub modules : AreModules n
  pub starts : StandsFor n (network_start m l word) (board_start n.tables (network_start m l word))
  pub tells : TellsMoments m names n test
  pub between : (s : Situation) (d : Config) → StandsFor n s d → is_moment b d ≡ test s
  pub amid : (s t : Situation) (d : Config) → IsAmid n s t d → is_moment b d ≡ false
  pub at_loose : (s : Situation) (d : Config) → IsLoose n s d → is_moment b d ≡ false
  pub which : (s : Situation) (d : Config) (a : ℕ) → StandsFor n s d → (moment_at b d ≡ Some a) ↔ IsMoment m names n s a
  pub state : (s : Situation) (a : ℕ) (c : Configuration ℕ) → IsMoment m names n s a → IsMomentOf m l names n s c
      → c.state ≡ a
  pub heads : HasHeads m l (network_start m l word)
  pub cell_tables : (t p : ℕ) → IsTape t → p < cells_in l t
      → slice_get n.tables (first_cell l t + p) ≡ Some (cell_table (symbol_count m t))
  pub cell_bases : (t p : ℕ) → IsTape t → p < cells_in l t → base n.tables (first_cell l t + p) ≡ cell_element b t p
  pub quiet : test (network_start m l word) ≡ false
  pub count : elements_of b ≡ elements_by m l (length names)
  pub whole : size n.tables ≡ elements_by m l (length names)
  pub letters_are : (t : ℕ) → symbol_count_at b t ≡ symbol_count m t
  pub end : (s : Situation) (d : Config) → StandsFor n s d → s.place ≡ Left 0 0 → d.place ≡ end_place b
  pub cell : (s : Situation) (d : Config) (t p o : ℕ) → StandsFor n s d → IsTape t → p < cells_in l t
      → s.place ≡ Left (first_cell l t + p) o → d.place ≡ cell_output b t p o
  pub loose : (s : Situation) (d : Config) (i q : ℕ) → IsLoose n s d → s.place ≡ Enter 0 i
      → slice_get s.states 0 ≡ Some q → d.place ≡ Left (column_at 0 (lines_at b) q + i) west
  pub spells : (s : Situation) (d : Config) (c : Configuration ℕ) → StandsFor n s d → ShowsAllCells m l s.states c
      → spelled_by b d.states ≡ spelled_config l c
  pub spells_loose : (s : Situation) (d : Config) (i : ℕ) (c : Configuration ℕ) → IsLoose n s d → s.place ≡ Enter 0 i
      → ShowsAllCells m l s.states c → spelled_by b d.states ≡ spelled_config l c

-- the network of any uniform machine can be read from its circuit
abbrev pub NetworksAreRead : Type 0
NetworksAreRead =
    (m : Quadruples) (l : Limits) (word : List ℕ) (names : List ControlState) (k : Circuit) (b : Layout)
    → IsUniformNetwork m l names k → IsLayout m l names b → All (λ s. s < symbol_count m 1) word
    → (test : Situation → Bool) × NetworkReads m l word names k b test
