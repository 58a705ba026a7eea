-- The arguments of the functions of this crate: names of existing states, and a circuit by its numbers.
use Rattle.std.specs.Prelude.{◌≡◌, ℕ, ◌<◌, ◌≤◌, List, length}
use Rattle.bn_machine.specs.Outcome.{Limits}
use Rattle.bn_bennett.specs.Translation.{Translation}
use Rattle.bn_circuits.specs.declared.net.TheConstants.{MOST_ELEMENTS}
use Rattle.bn_network.specs.Controls.{ControlState, IsNumbering}
use Rattle.bn_boards.specs.Flats.{Flat}
use Rattle.bn_control.specs.declared.name.StateName.{StateName}
use Rattle.bn_control.specs.declared.name.StateName.TheVariants.{Begin, End, Reads, Shifts, Writes}

-- the state of the machine of quadruples in which the control reads, or into which it writes, is below this number
abbrev pub HasStateName : ℕ → StateName → Type 0
HasStateName count Begin = Unit {0}
HasStateName count End = Unit {0}
HasStateName count (Reads a n s) = a < count
HasStateName count (Shifts n t) = Unit {0}
HasStateName count (Writes a t u) = a < count

-- the circuit is that of this translation in these limits, by its numbers
pub record HasNumbers (f : Flat) (m : Translation) (l : Limits) : Type 0 where
  pub translation : f.translation ≡ m
  pub numbering : IsNumbering m.machine f.names
  pub limits : f.layout.limits ≡ l
  pub symbols : f.layout.symbols ≡ m.machine.symbols
  pub states : f.layout.states ≡ length f.names

-- the control of this translation's machine has fewer states than a circuit may have elements
abbrev pub HasFewStates : Translation → Type 0
HasFewStates m = (names : List ControlState) → IsNumbering m.machine names → length names ≤ MOST_ELEMENTS
