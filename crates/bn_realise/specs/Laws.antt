-- Laws on banks in any circuit.
use Rattle.std.specs.Prelude.{◌≡◌, ◌≢◌, ℕ, ◌+◌, ◌<◌, ◌≤◌, Bool, true, List, Option, Some, slice_get}
use Rattle.bn_lists.specs.Runs.{Passes}
use Rattle.bn_element.specs.Tables.{Table, IsReversible}
use Rattle.bn_circuits.specs.Circuits.{Circuit, clock, Goes}
use Rattle.bn_circuits.specs.declared.line.Line.{Line}
use Rattle.bn_circuits.specs.declared.config.Config.{Config}
use Rattle.bn_rsm.specs.Costs.{table_cost}
use Rattle.bn_realise.specs.Banks.{IsBank, IsBankWire, IsBankEntering, IsResting, IsBesideBank, IsWithinBank, AreMarked}
use Rattle.bn_realise.specs.Banks.{bottom_at, bank_input_line, mark_after, moved}
use Rattle.bn_realise.specs.BankWires.{IsWithinLines}
use Rattle.bn_realise.specs.BankNets.{IsBankNet}
use Rattle.bn_element.specs.Rotary.{horizontal}
use Rattle.bn_element.specs.declared.rotary.Rotary.{Rotary}
use Rattle.bn_circuits.specs.Parts.{Parts}

-- In any circuit that has the bank of a reversible table with as many output ports as input ports, if the signal
-- enters an input port of the bank at rest and the clock admits the cost: exactly that many steps lead to the end of
-- the move, and each test that holds of what is within the move holds strictly between.
abbrev pub BanksAreCrossed : Type 0
BanksAreCrossed =
    (k : Circuit) (b : ℕ) (t : Table) (q i : ℕ) (c : Config) (test : Config → Bool) → IsReversible t
    → t.outputs ≡ t.inputs → IsBank k b t → IsBankEntering b t q i c → c.steps + table_cost t q i ≤ clock
    → ((d : Config) → IsWithinBank b t q i c.states d → test d ≡ true)
    → Passes (Goes k) test (table_cost t q i) c (moved k b t q i c)

-- After a move the bank is at rest in the new state, or with no column marked if the pair has no move.
abbrev pub MovedBanksRest : Type 0
MovedBanksRest =
    (k : Circuit) (b : ℕ) (t : Table) (q i : ℕ) (c : Config) → IsReversible t → t.outputs ≡ t.inputs → IsBank k b t
    → IsBankEntering b t q i c → IsResting (moved k b t q i c).states b t.states t.inputs (mark_after (t.go q i))

-- A move changes no bar outside the bank.
abbrev pub MovesStayWithin : Type 0
MovesStayWithin =
    (k : Circuit) (b : ℕ) (t : Table) (q i : ℕ) (c : Config) (e : ℕ) → IsReversible t → t.outputs ≡ t.inputs
    → IsBank k b t → IsBankEntering b t q i c → IsBesideBank b t e
    → slice_get (moved k b t q i c).states e ≡ slice_get c.states e

-- A bank's own wires join ports of the bank, and none leads to one of its input ports.
abbrev pub OwnWiresStayInside : Type 0
OwnWiresStayInside =
    (b : ℕ) (t : Table) (from to : Line) → IsReversible t → t.outputs ≡ t.inputs → IsBankWire b t from to
    → IsWithinLines b t from to × ((i : ℕ) → i < t.inputs → to ≢ bank_input_line b i)

-- If the bottoms of a bank are as a mark says, at most one of them is horizontal. This holds at rest and strictly
-- within a move.
abbrev pub MarksAreOne : Type 0
MarksAreOne =
    (states : List ℕ) (b n k : ℕ) (mark : Option ℕ) → AreMarked states b n k mark → (j m : ℕ) → j < n → m < n
    → slice_get states (bottom_at b k j) ≡ Some horizontal → slice_get states (bottom_at b k m) ≡ Some horizontal
    → j ≡ m

-- With a given number of ports, a net is the bank of one table at most: two such tables have the same moves.
abbrev pub BanksAreOfOneTable : Type 0
BanksAreOfOneTable =
    (net : Parts Rotary) (t u : Table) → IsReversible t → IsReversible u → t.outputs ≡ t.inputs → u.outputs ≡ u.inputs
    → IsBankNet net t → IsBankNet net u → u.inputs ≡ t.inputs → (q i : ℕ) → t.go q i ≡ u.go q i

-- ---- the laws

pub record Laws : Type 0 where
  -- A move of a bank takes exactly its cost in steps, and each test that holds within the move holds strictly between
  -- its ends.
  pub banks_are_crossed : BanksAreCrossed
  -- After a move the bank is at rest in the new state, or with no column marked.
  pub moved_banks_rest : MovedBanksRest
  -- A move changes no bar outside the bank.
  pub moves_stay_within : MovesStayWithin
  -- A bank's own wires join its own ports, and none leads to an input port.
  pub own_wires_stay_inside : OwnWiresStayInside
  -- At most one column of a bank is marked, at rest and strictly within a move.
  pub marks_are_one : MarksAreOne
  -- The net of a bank and its number of ports determine its moves.
  pub banks_are_of_one_table : BanksAreOfOneTable
