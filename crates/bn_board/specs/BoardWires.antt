-- The relations in the contracts of the functions that draw a circuit's wires.
use Rattle.std.specs.Prelude.{◌≡◌, ℕ, ◌<◌, List, length, Some, slice_get, ◌⊎◌}
use Rattle.bn_element.specs.Tables.{Table}
use Rattle.bn_circuits.specs.Circuits.{Circuit, target}
use Rattle.bn_circuits.specs.declared.line.Line.{Line}
use Rattle.bn_circuits.specs.declared.line.Wire.{Wire}
use Rattle.bn_circuits.specs.Parts.{Parts, circuit}
use Rattle.bn_circuits.specs.Wirings.{AreWiresOf}
use Rattle.bn_packed.specs.Drafts.{AreDrawn}
use Rattle.bn_packed.specs.Ends.{EndList}
use Rattle.bn_realise.specs.Banks.{IsBankWire, bank_input_line, bank_output_line}
use Rattle.bn_boards.specs.Boards.{base}
use Rattle.bn_network_assembly.specs.Modules.{module_table}
use Rattle.bn_network_assembly.specs.declared.module.Module.{Module}

-- the circuit of a net of modules
abbrev pub module_circuit : Parts Module → Circuit
module_circuit net = circuit module_table net

-- the first elements of the modules' banks, in the order of the modules
pub record AreBases (ts : List Table) (bases : List ℕ) : Type 0 where
  pub count : length bases ≡ length ts
  pub are : (m b : ℕ) → slice_get bases m ≡ Some b → b ≡ base ts m

-- an own wire of one of the first banks
pub data IsOwnWire (n : Circuit) (count : ℕ) (from to : Line) : Type 0 where
  of_bank : (m : ℕ) (t : Table) → m < count → slice_get n.tables m ≡ Some t → IsBankWire (base n.tables m) t from to
      → IsOwnWire n count from to

-- an output port of a module comes before port o of module e
abbrev pub IsBefore : ℕ → ℕ → Line → Type 0
IsBefore e o x = (x.element < e) ⊎ ((x.element ≡ e) × (x.line < o))

-- an own wire of a bank, or a wire between banks that leaves an output port before port o of module e
pub data IsWireBefore (n : Circuit) (e o : ℕ) (from to : Line) : Type 0 where
  own_wire : IsOwnWire n (length n.tables) from to → IsWireBefore n e o from to
  between_banks : (out into : Line) (t : Table) → IsBefore e o out → target n.wires out ≡ Some into
      → slice_get n.tables out.element ≡ Some t → from ≡ bank_output_line (base n.tables out.element) t out.line
      → to ≡ bank_input_line (base n.tables into.element) into.line → IsWireBefore n e o from to

-- the wire from output port `line` of module `number` to the input port `to` of another, in the circuit
pub record IsBetween (n : Circuit) (number line : ℕ) (to : Line) (w : Wire) : Type 0 where
  pub wire : (t : Table) → slice_get n.tables number ≡ Some t
      → w ≡ record {
        from = bank_output_line (base n.tables number) t line;
        to = bank_input_line (base n.tables to.element) to.line;
      }

-- a draft of this many elements has the wires of some list, whose wires are exactly those of this relation
pub record IsDrawn (Leads : Line → Line → Type 0) (count : ℕ) (draft : EndList) : Type 0 where
  pub wires : List Wire
  pub drawn : AreDrawn count wires draft
  pub are : AreWiresOf Leads wires
