-- Moves of banks in nets, and a net that is one bank.
use Rattle.std.specs.Prelude.{◌≡◌, ℕ, ◌+◌, ◌*◌, ◌^◌, ◌<◌, ◌≤◌, Bool, true, length, replicate, Some, slice_set}
use Rattle.bn_lists.specs.Runs.{Reaches, Passes}
use Rattle.bn_element.specs.Tables.{Table, IsReversible}
use Rattle.bn_circuits.specs.Circuits.{Circuit, clock, target, Goes}
use Rattle.bn_circuits.specs.declared.line.Line.{Line}
use Rattle.bn_circuits.specs.declared.place.Place.{Place}
use Rattle.bn_circuits.specs.declared.place.Place.TheVariants.{Enter, Left}
use Rattle.bn_circuits.specs.declared.config.Config.{Config}
use Rattle.bn_element.specs.Rotary.{horizontal, vertical, west}
use Rattle.bn_element.specs.declared.rotary.Rotary.{Rotary}
use Rattle.bn_circuits.specs.Parts.{Parts}
use Rattle.bn_circuits.specs.RotaryNets.{rotary_circuit}
use Rattle.bn_rsm.specs.Machines.{Machine}
use Rattle.bn_rsm.specs.Costs.{table_cost}
use Rattle.bn_realise.specs.Banks.{column_at, bottom_at, IsBank, IsBankWire, IsBankEntering, IsResting}
use Rattle.bn_realise.specs.Banks.{IsWithinBank, moved}
use Rattle.bn_realise.specs.declared.refusal.BankRefusal.{BankRefusal}
use Rattle.bn_realise.specs.declared.refusal.BankRefusal.TheVariants.{Elements, NoMemory}

-- A table of which a bank can begin at element `first`: it has at least one state and one input port, as many output
-- ports as input ports, and the number of the bank's last element is below 2^32.
pub record HasRoom (first : ℕ) (t : Table) : Type 0 where
  pub some_states : 0 < t.states
  pub some_lines : 0 < t.inputs
  pub square : t.outputs ≡ t.inputs
  pub fits : column_at first t.inputs t.states ≤ 2 ^ 32

-- the bank can make a move from this configuration: it is at rest in a state, the signal enters an input port, and the
-- clock admits the cost
pub record CanMove (b : ℕ) (t : Table) (c : Config) : Type 0 where
  pub state : ℕ
  pub line : ℕ
  pub entering : IsBankEntering b t state line c
  pub in_time : c.steps + table_cost t state line ≤ clock

-- A move of this many steps, the last of which ends it; each test that holds of what is within the move holds strictly
-- between.
pub record IsMove (k : Circuit) (b : ℕ) (t : Table) (q i steps : ℕ) (c d : Config) : Type 0 where
  pub cost : steps ≡ table_cost t q i
  pub made : Reaches (Goes k) steps c d
  pub ends : d ≡ moved k b t q i c
  pub between : (test : Config → Bool) → ((x : Config) → IsWithinBank b t q i c.states x → test x ≡ true)
      → Passes (Goes k) test steps c d

-- The net is the bank of this table: its elements are those of the bank, and its wires are the bank's own and no
-- others.
pub record IsBankNet (net : Parts Rotary) (t : Table) : Type 0 where
  pub elements : length net.elements ≡ t.states * (t.inputs + 1)
  pub bank : IsBank (rotary_circuit net) 0 t
  pub no_others : (from to : Line) → target net.wires from ≡ Some to → IsBankWire 0 t from to

-- a net that is one bank, and the numbers of its states and ports
pub record Banked : Type 0 where
  pub net : Parts Rotary
  pub states : ℕ
  pub lines : ℕ

-- this is the bank of the table
pub record IsBankOf (v : Banked) (t : Table) : Type 0 where
  pub states : v.states ≡ t.states
  pub lines : v.lines ≡ t.inputs
  pub net : IsBankNet v.net t

-- this is the bank of some table
pub record IsSomeBank (v : Banked) : Type 0 where
  pub table : Table
  pub reversible : IsReversible table
  pub square : table.outputs ≡ table.inputs
  pub is_bank : IsBankOf v table

-- The bank is at rest in a state, the signal enters an input port, and the clock admits the cost for every table whose
-- bank this is.
pub record IsReadyBank (v : Banked) (c : Config) : Type 0 where
  pub state : ℕ
  pub line : ℕ
  pub some_state : state < v.states
  pub some_line : line < v.lines
  pub resting : IsResting c.states 0 v.states v.lines (Some state)
  pub enters : c.place ≡ Enter line west
  pub in_time : (t : Table) → IsReversible t → t.outputs ≡ t.inputs → IsBankOf v t
      → c.steps + table_cost t state line ≤ clock

-- the signal has left by this port
abbrev pub HasLeft : Place → Line → Type 0
HasLeft place exit = place ≡ Left exit.element exit.line

-- the number of elements of a machine's bank
abbrev pub bank_elements : Machine → ℕ
bank_elements m = m.states * (m.lines + 1)

-- a refusal for the number of elements returns that number
abbrev pub IsCounted : ℕ → BankRefusal → Type 0
IsCounted count (Elements n) = n ≡ count
IsCounted count NoMemory = Unit {0}

-- the bank with n columns of k rows at rest in state q, with the signal about to enter input port i, and no step
-- counted
abbrev pub start_at : ℕ → ℕ → ℕ → ℕ → Config
start_at n k q i = record {
  states = slice_set (replicate (n * (k + 1)) vertical) (bottom_at 0 k q) horizontal;
  place = Enter i west;
  steps = 0;
}
