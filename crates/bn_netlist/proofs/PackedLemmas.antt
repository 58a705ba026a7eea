-- Packed nets that are made of the wires and the bars of a text.
use Rattle.std.specs.Prelude.{◌≡◌, ℕ, ◌+◌, ◌*◌, ◌<◌, List, length, replicate, refl}
use Rattle.std.proofs.Common.{ap, arith, subst, sym, ◌∙◌}
use Rattle.std.proofs.lemmas.Option.{same_Some}
use Rattle.bn_circuits.specs.Circuits.{IsCircuit, IsConfig, IsPlace, inputs_of, outputs_of, states_of, line_at, target}
use Rattle.bn_circuits.specs.declared.line.Line.{Line}
use Rattle.bn_circuits.specs.declared.place.Place.{Place}
use Rattle.bn_circuits.specs.declared.place.Place.TheVariants.{Enter, Left}
use Rattle.bn_circuits.specs.declared.line.Wire.{Wire}
use Rattle.bn_circuits.proofs.AlikeLemmas.{sources_one}
use Rattle.bn_element.specs.Rotary.{rotary}
use Rattle.bn_element.specs.Tables.{Table}
use Rattle.bn_element.specs.declared.rotary.Rotary.{Rotary}
use Rattle.bn_circuits.specs.Parts.{Parts}
use Rattle.bn_circuits.specs.RotaryNets.{IsNetOf, rotary_circuit}
use Rattle.bn_circuits.specs.Wirings.{AreApart}
use Rattle.bn_circuits.proofs.WiringsLemmas.{apart-IsOneToOne}
use Rattle.bn_packed.specs.Drafts.{AreDrawn}
use Rattle.bn_packed.specs.Ends.{EndList, nth_line}
use Rattle.bn_packed.proofs.AcrossLemmas.{ahead-AreTargets}
use Rattle.bn_packed.proofs.EndLemmas.{line_by_number}
use Rattle.bn_netlist_laws.proofs.WireLemmas.{rotary_output}
use Rattle.bn_netlist_laws.specs.Spelling.{AreSame, circuit_of}
use Rattle.bn_netlist_laws.specs.declared.header.Header.{Header}
use Rattle.bn_netlist.proofs.NetLemmas.{map-replicate}
use Rattle.bn_netlist.specs.WireSpelling.{spelling_by}
use Rattle.bn_netlist.specs.NetText.{spelling_of}
use Rattle.bn_netlist.specs.PackedText.{spelling_of_packed}
use Rattle.bn_netlist.specs.declared.net_config.NetConfig.{NetConfig}
use Rattle.bn_netlist.specs.declared.packed_config.PackedConfig.{PackedConfig}

module _ (h : Header) (wires : List Wire) (states : List ℕ) (net : Parts Rotary) (is : IsNetOf net h.count wires) where
  tables : (rotary_circuit net).tables ≡ replicate h.count rotary
  tables = map-replicate rotary net.elements ∙ ap (λ (n : ℕ). replicate n rotary) is.elements

  place_in : (p : Place) → IsPlace (circuit_of (spelling_by h wires states)) p → IsPlace (rotary_circuit net) p
  place_in (Enter e i) there = subst (λ (ts : List Table). i < inputs_of ts e) (sym tables) there
  place_in (Left e o) there = (
    subst (λ (ts : List Table). o < outputs_of ts e) (sym tables) there.0,
    is.targets (line_at e o) ∙ there.1,
  )

  -- a net of these wires has the configuration of what they spell
  pub net-IsConfig : IsConfig (circuit_of (spelling_by h wires states)) (spelling_by h wires states).config
      → IsConfig (rotary_circuit net) (spelling_by h wires states).config
  net-IsConfig config = record {
    count = config.count ∙ sym (ap length tables);
    range = λ e q has. subst (λ (ts : List Table). q < states_of ts e) (sym tables) (config.range e q has);
    place = place_in h.place config.place;
    in_time = config.in_time;
  }

-- ---- the wires of one draft lead alike

pub drawn_alike : (count : ℕ) (ws vs : List Wire) (e : EndList) → AreDrawn count ws e → AreDrawn count vs e
    → (l : Line) → l.element < count → l.line < 4 → target ws l ≡ target vs l
drawn_alike count ws vs e one other l there low =
    let ends_one = ahead-AreTargets (target ws) count e one.ends in
    let ends_other = ahead-AreTargets (target vs) count e other.ends in
    let i = 4 * l.element + l.line in
    let within : i < 4 * count = omega arith in
    let same : target ws (nth_line i) ≡ target vs (nth_line i) =
    same_Some (target ws (nth_line i)) (target vs (nth_line i))
    (sym (ends_one.ends.each i within) ∙ ends_other.ends.each i within) in
    subst (λ (m : Line). target ws m ≡ target vs m) (line_by_number l i low refl) same

-- and spell a configuration alike
module _ (h : Header) (ws vs : List Wire) (states : List ℕ) (e : EndList) (one : AreDrawn h.count ws e)
    (other : AreDrawn h.count vs e) where
  drawn_place : (p : Place) → IsPlace (circuit_of (spelling_by h vs states)) p
      → IsPlace (circuit_of (spelling_by h ws states)) p
  drawn_place (Enter b i) there = there
  drawn_place (Left b o) there =
      let below = rotary_output h.count b o there.0 in
      (there.0, drawn_alike h.count ws vs e one other (line_at b o) below.0 below.1 ∙ there.1)

  pub drawn_config : IsConfig (circuit_of (spelling_by h vs states)) (spelling_by h vs states).config
      → IsConfig (circuit_of (spelling_by h ws states)) (spelling_by h ws states).config
  drawn_config config = record {
    count = config.count;
    range = config.range;
    place = drawn_place h.place config.place;
    in_time = config.in_time;
  }

-- the net is what the wires and the bars spell
pub net-AreSame : (h : Header) (wires : List Wire) (states : List ℕ) (c : NetConfig) → AreApart wires
    → IsNetOf c.net h.count wires → IsCircuit (rotary_circuit c.net)
    → c.config ≡ (spelling_by h wires states).config → c.start ≡ h.start → c.end ≡ h.end
    → AreSame (spelling_by h wires states) (spelling_of c)
net-AreSame h wires states c apart is circuit config start end = record {
  elements = sym is.elements;
  targets = λ from. sym (is.targets from);
  sources = λ to. sources_one wires c.net.wires (apart-IsOneToOne wires apart) circuit.one_to_one
      (λ from. sym (is.targets from)) to;
  config = sym config;
  start = sym start;
  end = sym end;
}

-- the packed net is what the wires and the bars spell
pub packed-AreSame : (h : Header) (wires : List Wire) (states : List ℕ) (c : PackedConfig) → AreApart wires
    → IsNetOf c.packed.net h.count wires → IsCircuit (rotary_circuit c.packed.net)
    → c.packed.config ≡ (spelling_by h wires states).config → c.start ≡ h.start → c.end ≡ h.end
    → AreSame (spelling_by h wires states) (spelling_of_packed c)
packed-AreSame h wires states c apart is circuit config start end = record {
  elements = sym is.elements;
  targets = λ from. sym (is.targets from);
  sources = λ to. sources_one wires c.packed.net.wires (apart-IsOneToOne wires apart) circuit.one_to_one
      (λ from. sym (is.targets from)) to;
  config = sym config;
  start = sym start;
  end = sym end;
}
