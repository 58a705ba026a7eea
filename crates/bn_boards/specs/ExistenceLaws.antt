-- The statements of this crate's laws, each a field of `Laws`: each machine has a network, a layout and a circuit.
use Rattle.std.specs.Prelude.{◌≡◌, ℕ, List}
use Rattle.bn_circuits.specs.Circuits.{Circuit}
use Rattle.bn_machine.specs.Machine.{Program}
use Rattle.bn_machine.specs.Outcome.{Limits}
use Rattle.bn_quad.specs.Quadruples.{Quadruples, IsQuadMachine}
use Rattle.bn_quad.specs.Calls.{IsUniformMachine}
use Rattle.bn_bennett_laws.specs.Stages.{IsStandardMachine}
use Rattle.bn_table.specs.Rows.{FitsTable}
use Rattle.bn_network.specs.Controls.{ControlState, IsNumbering}
use Rattle.bn_network.specs.Networks.{IsNetwork}
use Rattle.bn_network.specs.Moments.{HasLetters}
use Rattle.bn_boards.specs.Boards.{AreModules}
use Rattle.bn_boards.specs.Layouts.{Layout, IsLayout}
use Rattle.bn_boards.specs.Flats.{Flat, IsFlatOf, AreSameFlats}
use Rattle.bn_circuits.specs.Alike.{AreAlike}

-- a uniform machine with a symbol on each tape has a network in any limits, and any two such networks have the same
-- tables and the same wires
abbrev pub NetworksAreThere : Type 0
NetworksAreThere =
    ((m : Quadruples) (l : Limits) (names : List ControlState) → IsQuadMachine m → IsUniformMachine m → HasLetters m
    → IsNumbering m names → (k : Circuit) × IsNetwork m l names k)
    × ((m : Quadruples) (l : Limits) (names : List ControlState) (k n : Circuit) → IsNetwork m l names k
    → IsNetwork m l names n → AreAlike k n)

-- the modules of a network can be banks
abbrev pub NetworksAreModules : Type 0
NetworksAreModules = (m : Quadruples) (l : Limits) (names : List ControlState) (k : Circuit) → HasLetters m
    → IsNumbering m names → IsNetwork m l names k → AreModules k

-- a uniform machine has exactly one layout in any limits
abbrev pub LayoutsAreThere : Type 0
LayoutsAreThere =
    ((m : Quadruples) (l : Limits) (names : List ControlState) → IsQuadMachine m → IsUniformMachine m
    → IsNumbering m names → (b : Layout) × IsLayout m l names b)
    × ((m : Quadruples) (l : Limits) (names : List ControlState) (b c : Layout) → IsQuadMachine m
    → IsUniformMachine m → IsNumbering m names → IsLayout m l names b → IsLayout m l names c → b ≡ c)

-- a machine in standard form within the limits of tables has a circuit for each word and limits, and any two such
-- circuits are the same up to the order of wires
abbrev pub FlatsAreThere : Type 0
FlatsAreThere =
    (p : Program) (word : List ℕ) (l : Limits) → IsStandardMachine p → FitsTable p
    → (f : Flat) × IsFlatOf p word l f × ((g : Flat) → IsFlatOf p word l g → AreSameFlats f g)
