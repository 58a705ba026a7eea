-- The statements of this crate's laws, each a field of `Laws`. In this crate a *circuit* is a circuit of rotary
-- elements (*board* in names), and a *network* is a circuit of modules.
use Rattle.std.specs.Prelude.{◌≡◌, ℕ, ◌+◌, ◌<◌, ◌≤◌, Bool, true, Some, slice_get, ◌⊎◌}
use Rattle.bn_lists.specs.Runs.{Reaches, Passes}
use Rattle.bn_element.specs.Tables.{Table}
use Rattle.bn_circuits.specs.Circuits.{Circuit, clock, Goes}
use Rattle.bn_circuits.specs.Stepping.{run}
use Rattle.bn_circuits.specs.declared.place.Place.TheVariants.{Enter}
use Rattle.bn_circuits.specs.declared.config.Config.{Config}
use Rattle.bn_realise.specs.Banks.{IsBank}
use Rattle.bn_circuits.specs.Situations.{Situation, Turns, IsAtEnd}
use Rattle.bn_rsm.specs.RunCosts.{run_cost, step_cost}
use Rattle.bn_boards.specs.Boards.{AreModules, IsBoard, StandsFor, IsAmid, IsLoose, base}

-- each module of any network is a bank of the network's circuit
abbrev pub ModulesAreBanks : Type 0
ModulesAreBanks = (n k : Circuit) (m : ℕ) (t : Table) → AreModules n → IsBoard n k → slice_get n.tables m ≡ Some t
    → IsBank k (base n.tables m) t

-- every network has a circuit, with one target for each port
abbrev pub BoardsAreThere : Type 0
BoardsAreThere = (n : Circuit) → AreModules n → (k : Circuit) × IsBoard n k

-- one move of the network is one crossing of a bank, in exactly its cost
abbrev pub OneMove : Type 0
OneMove =
    (n k : Circuit) (s t : Situation) (c : Config) (test : Config → Bool) → AreModules n → IsBoard n k
    → StandsFor n s c → Turns n s t → c.steps + step_cost n s ≤ clock
    → ((d : Config) → IsAmid n s t d → test d ≡ true)
    → (d : Config) × Passes (Goes k) test (step_cost n s) c d × StandsFor n t d × (d.steps ≡ c.steps + step_cost n s)

-- if the module that the signal enters has no move, the signal leaves by its loose port, after the cost of the path
-- to that port
abbrev pub LooseMove : Type 0
LooseMove =
    (n k : Circuit) (s : Situation) (e i : ℕ) (c : Config) (test : Config → Bool) → AreModules n → IsBoard n k
    → StandsFor n s c → IsAtEnd n s → s.place ≡ Enter e i → c.steps + step_cost n s ≤ clock
    → ((d : Config) → IsAmid n s s d → test d ≡ true)
    → (d : Config) × Passes (Goes k) test (step_cost n s) c d × IsLoose n s d

-- A path of the network is a path of its circuit, in its cost. A test holds strictly between the ends if it holds
-- strictly within each move on the path, and at each step at which the circuit represents a situation for which the
-- network's test holds.
abbrev pub BoardsFollow : Type 0
BoardsFollow =
    (n k : Circuit) (m : ℕ) (s t : Situation) (c : Config) (between : Situation → Bool) (test : Config → Bool)
    → AreModules n → IsBoard n k → StandsFor n s c → Passes (Turns n) between m s t
    → c.steps + run_cost n m s ≤ clock
    → ((i : ℕ) (x y : Situation) (d : Config) → i < m → Reaches (Turns n) i s x → Turns n x y → IsAmid n x y d
    → test d ≡ true)
    → ((x : Situation) (d : Config) → StandsFor n x d → between x ≡ true → test d ≡ true)
    → (d : Config) × Passes (Goes k) test (run_cost n m s) c d × StandsFor n t d
    × (d.steps ≡ c.steps + run_cost n m s)

-- the circuit represents one of the network's situations, at the sum of the costs so far
pub record IsAtMove (n : Circuit) (s : Situation) (t : ℕ) (d : Config) : Type 0 where
  pub moves : ℕ
  pub at : Situation
  pub run : Reaches (Turns n) moves s at
  pub sum : t ≡ run_cost n moves s
  pub stands : StandsFor n at d

-- at each step of such a run the circuit represents a situation of the network, or every test holds that holds
-- strictly within the moves on the path
abbrev pub BoardsVisit : Type 0
BoardsVisit =
    (n k : Circuit) (m : ℕ) (s t : Situation) (c : Config) (test : Config → Bool) → AreModules n → IsBoard n k
    → StandsFor n s c → Reaches (Turns n) m s t → c.steps + run_cost n m s ≤ clock
    → ((i : ℕ) (x y : Situation) (d : Config) → i < m → Reaches (Turns n) i s x → Turns n x y → IsAmid n x y d
    → test d ≡ true)
    → (i : ℕ) → i ≤ run_cost n m s → IsAtMove n s i (run k c i) ⊎ (test (run k c i) ≡ true)
