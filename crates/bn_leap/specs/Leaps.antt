-- Boards that are under way, and configurations in which their signal enters a bank.
use Rattle.std.specs.Prelude.{◌≡◌, ℕ, ◌+◌, ◌<◌, ◌≤◌, Some, slice_get}
use Rattle.bn_lists.specs.Runs.{Reaches}
use Rattle.bn_element.specs.Tables.{Table}
use Rattle.bn_element.specs.Rotary.{west}
use Rattle.bn_circuits.specs.Circuits.{Circuit, Goes}
use Rattle.bn_circuits.specs.Situations.{Situation}
use Rattle.bn_circuits.specs.declared.place.Place.TheVariants.{Enter}
use Rattle.bn_circuits.specs.declared.config.Config.{Config}
use Rattle.bn_circuits.specs.declared.net.TheConstants.{MOST_ELEMENTS}
use Rattle.bn_boards.specs.Boards.{AreModules, IsBoard, StandsFor, base, size}

-- k is the board of the network n, and c is reached on the board from a configuration that represents a situation of
-- the network
pub record IsUnderWay (n k : Circuit) (c : Config) : Type 0 where
  pub modules : AreModules n
  pub board : IsBoard n k
  pub few : size n.tables ≤ MOST_ELEMENTS
  pub start : Situation
  pub origin : Config
  pub stands : StandsFor n start origin
  pub steps : ℕ
  pub reached : Reaches (Goes k) steps origin c

-- the signal is about to enter input port i of the bank of module m, whose table this is
pub record IsEntered (n : Circuit) (m : ℕ) (t : Table) (i : ℕ) (c : Config) : Type 0 where
  pub has_table : slice_get n.tables m ≡ Some t
  pub row : i < t.inputs
  pub enters : c.place ≡ Enter (base n.tables m + i) west
