-- The texts of packed nets.
use Rattle.std.specs.Prelude.{length}
use Rattle.bn_netlist_laws.specs.Spelling.{Spelling}
use Rattle.bn_netlist.specs.declared.packed_config.PackedConfig.{PackedConfig}

-- the meaning of the text of a packed net in its configuration
abbrev pub spelling_of_packed : PackedConfig → Spelling
spelling_of_packed c = record {
  elements = length c.packed.net.elements;
  wires = c.packed.net.wires;
  config = c.packed.config;
  start = c.start;
  end = c.end;
}
