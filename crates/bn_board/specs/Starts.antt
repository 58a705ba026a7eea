-- The relations in the contracts of the functions that build a circuit.
use Rattle.std.specs.Prelude.{◌≡◌, ℕ, List, All, Some, slice_get}
use Rattle.bn_element.specs.Tables.{Table}
use Rattle.bn_circuits.specs.declared.place.Place.TheVariants.{Enter}
use Rattle.bn_circuits.specs.declared.config.Config.{Config}
use Rattle.bn_element.specs.Rotary.{west}
use Rattle.bn_boards.specs.Boards.{bars_of}
use Rattle.bn_machine.specs.Outcome.{Limits}
use Rattle.bn_control.specs.Controlled.{Controlled, IsTapeAwaited}
use Rattle.bn_boards.specs.Layouts.{Layout}
use Rattle.bn_network_assembly.specs.Assembled.{Assembled}
use Rattle.bn_network_assembly.specs.declared.module.Module.TheVariants.{Control}

-- the layout of a circuit with this control in these limits
abbrev pub layout_by : Controlled → Limits → Layout
layout_by v l = record {
  limits = l;
  symbols = v.symbols;
  states = v.machine.states;
  firsts = v.firsts;
  awaited = v.awaited;
}

-- the layout is that of the network's control, in the network's limits
pub record IsLayoutOf (a : Assembled) (b : Layout) : Type 0 where
  pub control : Controlled
  pub first : slice_get a.net.elements 0 ≡ Some (Control control)
  pub tapes : All IsTapeAwaited control.awaited
  pub numbers : b ≡ layout_by control a.limits

-- the configuration at the start of a circuit whose modules are in these states
abbrev pub start_by : List Table → List ℕ → Config
start_by ts qs = record { states = bars_of ts qs; place = Enter 0 west; steps = 0 }
