-- Wires that are apart have no fault in a net of any tables.
use Rattle.std.specs.Prelude.{◌≡◌, ℕ, true, List, Some, slice_get, refl}
use Rattle.std.proofs.lemmas.Bool.{lt-ltb}
use Rattle.bn_element.specs.Tables.{Table}
use Rattle.bn_circuits.specs.Circuits.{inputs_of, outputs_of, IsInputOf, IsOutputOf}
use Rattle.bn_circuits.specs.declared.line.Line.{Line}
use Rattle.bn_circuits.specs.declared.line.Wire.{Wire}
use Rattle.bn_circuits.specs.Faults.{AreFaultless, is_within}
use Rattle.bn_circuits.specs.Wirings.{AreApart, AreWiresOf}
use Rattle.bn_circuits.proofs.WiringsLemmas.{apart-wire, earlier_target, earlier_source}

-- whatever the elements
pub apart-faultless : (ts : List Table) (ws : List Wire) → AreApart ws
    → ((n : ℕ) (w : Wire) → slice_get ws n ≡ Some w → is_within ts w ≡ true) → AreFaultless ts ws
apart-faultless ts ws apart within n below w h = rw (
  within n w h,
  earlier_target ws n w apart h,
  earlier_source ws n w apart h,
) refl

-- wires of a relation that leads from output lines to input lines
pub wires-faultless : (ts : List Table) (Leads : Line → Line → Type 0) (ws : List Wire) → AreWiresOf Leads ws
    → ((from to : Line) → Leads from to → IsOutputOf ts from × IsInputOf ts to) → AreFaultless ts ws
wires-faultless ts Leads ws are wired =
    apart-faultless ts ws are.apart (λ n w h.
    let lines = wired w.from w.to (are.sound w.from w.to (apart-wire ws n w are.apart h)) in
    rw (lt-ltb w.from.line (outputs_of ts w.from.element) lines.0, lt-ltb w.to.line (inputs_of ts w.to.element) lines.1)
    refl)
