-- The names of a control's states, and their order.
use Rattle.std.specs.Prelude.{◌≡◌, ℕ, List, map, Some, slice_get}
use Rattle.bn_quad.specs.Quadruples.{Quadruples}
use Rattle.bn_network.specs.Controls.{ControlState, Occurs, IsNumbering}
use Rattle.bn_lists.specs.Lists.{Has}
use Rattle.bn_control.specs.declared.name.StateName.{StateName}
use Rattle.bn_control.specs.Names.{state_of, IsProper}

-- the names of the control's states, in any order, possibly with repetitions
pub record AreNames (m : Quadruples) (ss : List StateName) : Type 0 where
  pub proper : (x : StateName) → Has ss x → IsProper x
  pub only : (x : StateName) → Has ss x → Occurs m (state_of x)
  pub each : (q : ControlState) → Occurs m q → (x : StateName) × Has ss x × (state_of x ≡ q)

-- these names in the order of the states
pub record AreOrdered (m : Quadruples) (ss : List StateName) : Type 0 where
  pub proper : (n : ℕ) (x : StateName) → slice_get ss n ≡ Some x → IsProper x
  pub numbering : IsNumbering m (map state_of ss)

-- the name is one of these ordered names of a control's states
pub record HasNumber (ss : List StateName) (x : StateName) : Type 0 where
  pub machine : Quadruples
  pub ordered : AreOrdered machine ss
  pub occurs : Occurs machine (state_of x)
  pub proper : IsProper x
