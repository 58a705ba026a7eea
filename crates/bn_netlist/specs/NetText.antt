-- The texts of nets, and what a refusal asserts about a text.
use Rattle.std.specs.Prelude.{◌≡◌, ℕ, List, length}
use Rattle.bn_circuits.specs.RotaryNets.{rotary_circuit}
use Rattle.bn_netlist_laws.specs.Spelling as what
use Rattle.bn_netlist_laws.specs.Spelling.{circuit_of}
use Rattle.bn_netlist_laws.specs.Faults.{IsFirstFault, malformed, too_many, no_element, out_of_order, end_wired}
use Rattle.bn_netlist_laws.specs.Faults.{left_wired, start_fed, second_source, spelled_out}
use Rattle.bn_netlist.specs.declared.net_config.NetConfig.{NetConfig}
use Rattle.bn_netlist.specs.declared.line_refusal.NetlistRefusal.{NetlistRefusal}
use Rattle.bn_netlist.specs.declared.line_refusal.NetlistRefusal.TheVariants.{Syntax, Order, Target, TwoSources}
use Rattle.bn_netlist.specs.declared.line_refusal.NetlistRefusal.TheVariants.{StartFed, EndWired, LeftWired, TooMany}
use Rattle.bn_netlist.specs.declared.line_refusal.NetlistRefusal.TheVariants.{Spelling, NoMemory}

-- the meaning of the text of a net with its configuration
abbrev pub spelling_of : NetConfig → what.Spelling
spelling_of c =
    record { elements = length c.net.elements; wires = c.net.wires; config = c.config; start = c.start; end = c.end }

-- what a refusal asserts about the text: which line is the first faulty one, and its first fault; out of memory
-- asserts nothing
abbrev pub IsTextRefusal : List ℕ → NetlistRefusal → Type 0
IsTextRefusal text (Syntax line) = IsFirstFault text line malformed
IsTextRefusal text (Order line) = IsFirstFault text line out_of_order
IsTextRefusal text (Target line) = IsFirstFault text line no_element
IsTextRefusal text (TwoSources line) = IsFirstFault text line second_source
IsTextRefusal text (StartFed line) = IsFirstFault text line start_fed
IsTextRefusal text (EndWired line) = IsFirstFault text line end_wired
IsTextRefusal text (LeftWired line) = IsFirstFault text line left_wired
IsTextRefusal text (TooMany line) = IsFirstFault text line too_many
IsTextRefusal text (Spelling line) = IsFirstFault text line spelled_out
IsTextRefusal text NoMemory = Unit {0}

-- the circuit of a net of rotary elements is that of its text
abbrev pub CircuitsAgree : Type 0
CircuitsAgree = (c : NetConfig) → rotary_circuit c.net ≡ circuit_of (spelling_of c)
