-- Where the signal is can be written.
use Rattle.std.specs.Prelude.{◌≡◌, ◌<◌}
use Rattle.std.proofs.Common.{sym, subst}
use Rattle.bn_circuits.specs.Circuits.{IsConfig, IsPlace}
use Rattle.bn_circuits.specs.declared.place.Place.{Place}
use Rattle.bn_circuits.specs.declared.place.Place.TheVariants.{Enter, Left}
use Rattle.bn_circuits.specs.declared.config.Config.{Config}
use Rattle.bn_element.specs.declared.rotary.Rotary.{Rotary}
use Rattle.bn_circuits.specs.Parts.{Parts}
use Rattle.bn_circuits.specs.RotaryNets.{rotary_circuit}
use Rattle.bn_packed.proofs.EndLemmas.{input_below, output_below}
use Rattle.bn_netlist_laws.specs.Sentences.{line_of_place}

-- a place is at a line of a rotary element
pub line_within : (net : Parts Rotary) (c : Config) → IsConfig (rotary_circuit net) c → (p : Place) → p ≡ c.place
    → (line_of_place p).line < 4
line_within net c good (Enter e l) is =
    (input_below net.elements (record { element = e; line = l })
    (subst (IsPlace (rotary_circuit net)) (sym is) good.place)).line
line_within net c good (Left e l) is =
    (let place : IsPlace (rotary_circuit net) (Left e l) = subst (IsPlace (rotary_circuit net)) (sym is) good.place in
    (output_below net.elements (record { element = e; line = l }) place.0).line)
