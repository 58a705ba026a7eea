-- The configuration that a header spells, given a list of wires and the states of the bars.
use Rattle.std.specs.Prelude.{ℕ, List}
use Rattle.bn_circuits.specs.declared.line.Wire.{Wire}
use Rattle.bn_netlist_laws.specs.Spelling.{Spelling}
use Rattle.bn_netlist_laws.specs.declared.header.Header.{Header}

-- the header's number of elements with these wires, bars in these states, and the start, end, place and steps of the
-- header
abbrev pub spelling_by : Header → List Wire → List ℕ → Spelling
spelling_by h wires states =
    record {
      elements = h.count;
      wires = wires;
      config = record { states = states; place = h.place; steps = h.steps };
      start = h.start;
      end = h.end;
    }
