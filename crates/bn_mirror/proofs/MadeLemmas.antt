-- The mirror that the program makes.
use Rattle.std.specs.Prelude.{◌≡◌, ℕ, List, length}
use Rattle.std.proofs.Common.{sym, subst, ◌∙◌}
use Rattle.bn_circuits.specs.Circuits.{Circuit, IsCircuit, IsPlace}
use Rattle.bn_circuits.specs.declared.line.Wire.{Wire}
use Rattle.bn_circuits.specs.RotaryNets.{IsNetOf, rotary_circuit}
use Rattle.bn_circuits.specs.Wirings.{AreWiresOf}
use Rattle.bn_netlist_laws.specs.Spelling.{Admits}
use Rattle.bn_netlist_laws.specs.declared.version.Version.{Version}
use Rattle.bn_netlist.specs.NetText.{spelling_of}
use Rattle.bn_netlist.specs.declared.net_config.NetConfig.{NetConfig}
use Rattle.bn_netlist.proofs.NetLemmas.{circuits-agree}
use Rattle.bn_mirror.specs.Listing.{IsMirroredWire}
use Rattle.bn_mirror.specs.Mirror.{mirrored_line, mirrored_place, IsMirror}
use Rattle.bn_mirror.proofs.AdmittedLemmas.{mirrors-admitted}
use Rattle.bn_mirror.proofs.ListingLemmas.{listed_mirrored}

-- the place of what may be spelled is one of the net
pub spelled_place : (v : Version) (a : NetConfig) → Admits v (spelling_of a)
    → IsPlace (rotary_circuit a.net) a.config.place
spelled_place v a admitted = subst (λ (k : Circuit). IsPlace k a.config.place) (sym (circuits-agree a))
    admitted.config.place

pub is_mirror : (a b : NetConfig) (ws : List Wire) (n : ℕ) → IsCircuit (rotary_circuit a.net)
    → IsCircuit (rotary_circuit b.net) → n ≡ length a.net.elements → AreWiresOf (IsMirroredWire a.net.wires) ws
    → IsNetOf b.net n ws →
    b.config.states ≡ a.config.states → b.config.place ≡ mirrored_place a.net.wires a.config.place → b.config.steps ≡ 0
    → b.start ≡ mirrored_line a.end → b.end ≡ mirrored_line a.start →
    IsMirror (spelling_of a) (spelling_of b)
is_mirror a b ws n circuit other count are is states place steps start end = record {
  elements = is.elements ∙ count;
  wires = listed_mirrored a.net circuit b.net ws n are is;
  one_to_one = other.one_to_one;
  start = start;
  end = end;
  bars = states;
  place = place;
  steps = steps;
}

pub is_admitted : (v : Version) (a b : NetConfig) → Admits v (spelling_of a) → IsMirror (spelling_of a) (spelling_of b)
    → Admits v (spelling_of b)
is_admitted v a b admitted is = mirrors-admitted v (spelling_of a) (spelling_of b) admitted is
