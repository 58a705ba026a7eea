-- A packed netlist as contracts see it.
use Rattle.std.specs.Prelude.{ℕ, List}
use Rattle.bn_circuits.specs.Circuits.{IsCircuit, IsConfig}
use Rattle.bn_circuits.specs.declared.place.Place.{Place}
use Rattle.bn_circuits.specs.declared.config.Config.{Config}
use Rattle.bn_element.specs.declared.rotary.Rotary.{Rotary}
use Rattle.bn_circuits.specs.Parts.{Parts}
use Rattle.bn_circuits.specs.RotaryNets.{rotary_circuit}
use Rattle.bn_packed.specs.declared.wires.Wires.{Wires}
use Rattle.bn_packed.specs.declared.wires.Wires.TheVariants.{Narrow, Wide}

-- a net of rotary elements, and a configuration of it
pub record PackedNet : Type 0 where
  pub net : Parts Rotary
  pub config : Config

-- the invariant of a packed netlist: its net is a circuit, and the configuration is one of it
pub record IsPacked (net : Parts Rotary) (c : Config) : Type 0 where
  pub circuit : IsCircuit (rotary_circuit net)
  pub good : IsConfig (rotary_circuit net) c

-- the configuration with these bars, the signal at this place, and this many steps
abbrev pub config_at : List ℕ → Place → ℕ → Config
config_at bars place steps = record { states = bars; place = place; steps = steps }

-- the net of these wires, for numbers of either size
abbrev pub net_in : Wires → Parts Rotary
net_in (Narrow wiring) = wiring.net
net_in (Wide wiring) = wiring.net
