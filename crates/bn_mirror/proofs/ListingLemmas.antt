-- The wires of a mirror, listed output by output.
use Rattle.std.specs.Prelude.{◌≡◌, ℕ, ◌+◌, ◌*◌, ◌<◌, ◌≤◌, List, [], ◌∷◌, ◌++◌, length, Option, Some, None, slice_get}
use Rattle.std.specs.Prelude.{◌⊎◌}
use Rattle.std.proofs.Common.{arith, sym, ap, subst, ◌∙◌, inl, inr, length-append}
use Rattle.std.proofs.lemmas.Bool.{cases_lt}
use Rattle.std.proofs.lemmas.Option.{same_Some}
use Rattle.bn_element.specs.Tables.{Table}
use Rattle.bn_circuits.specs.Circuits.{IsCircuit, IsInputOf, IsOutputOf, inputs_of, outputs_of, target, source}
use Rattle.bn_circuits.proofs.StepLemmas.{same_lines}
use Rattle.bn_circuits.specs.declared.line.Line.{Line}
use Rattle.bn_circuits.specs.declared.line.Wire.{Wire}
use Rattle.bn_element.specs.declared.rotary.Rotary.{Rotary}
use Rattle.bn_circuits.specs.Parts.{Parts}
use Rattle.bn_circuits.specs.RotaryNets.{IsNetOf, rotary_circuit}
use Rattle.bn_circuits.specs.Wirings.{AreFitting, AreWiresOf}
use Rattle.bn_circuits.proofs.RotaryNetLemmas.{rotary-tables}
use Rattle.bn_circuits.proofs.WiringsLemmas.{IsWire, apart-wire, more_wire, same_wires}
use Rattle.bn_netlist_laws.proofs.WireLemmas.{rotary_input, rotary_output}
use Rattle.bn_mirror.specs.Listing.{IsListing, IsMirroredBelow, IsMirroredWire, number_of}
use Rattle.bn_mirror.specs.Mirror.{AreMirrored, mirrored_line}
use Rattle.bn_mirror.proofs.RotaryLemmas.{exchanged_within, line_twice}

same_some : (a b : Line) → ◌≡◌ {A = Option Line} (Some a) (Some b) → a ≡ b
same_some a b e = same_Some a b e

-- a line's number says which it is
number_once : (a b : Line) → a.line < 4 → b.line < 4 → number_of a ≡ number_of b → a ≡ b
number_once a b low few same =
    let elements : a.element ≡ b.element = omega arith in
    let lines : a.line ≡ b.line = omega arith in
    same_lines a b elements lines

module _ (net : Parts Rotary) (circuit : IsCircuit (rotary_circuit net)) where
  output_low : (l : Line) → IsOutputOf (rotary_circuit net).tables l → (l.element < length net.elements) × (l.line < 4)
  output_low l h =
      let P : List Table → Type 0 = λ ts. l.line < outputs_of ts l.element in
      rotary_output (length net.elements) l.element l.line (subst P (rotary-tables net.elements) h)

  input_low : (l : Line) → IsInputOf (rotary_circuit net).tables l → (l.element < length net.elements) × (l.line < 4)
  input_low l h =
      let P : List Table → Type 0 = λ ts. l.line < inputs_of ts l.element in
      rotary_input (length net.elements) l.element l.line (subst P (rotary-tables net.elements) h)

  ends_low : (from to : Line) → target net.wires from ≡ Some to
      → ((from.element < length net.elements) × (from.line < 4)) × ((to.element < length net.elements) × (to.line < 4))
  ends_low from to h = let ends = circuit.wired from to h in (output_low from ends.0, input_low to ends.1)

  -- an output without a wire
  pub none_more : (k : ℕ) (ws : List Wire) (from : Line) → IsListing net.wires k ws → from.line < 4 → number_of from ≡ k
      → target net.wires from ≡ None → IsListing net.wires (k + 1) ws
  none_more k ws from listed low is none = record {
    wires = same_wires (IsMirroredBelow net.wires k) (IsMirroredBelow net.wires (k + 1)) ws listed.wires
        (λ f t h. record { wire = h.wire; below = let b = h.below in omega arith })
        (λ f t h. record { wire = h.wire; below = below f t h (cases_lt (number_of (mirrored_line t)) k) });
    few = let few = listed.few in omega arith;
  }
    where
      below : (f t : Line) → IsMirroredBelow net.wires (k + 1) f t
          → (number_of (mirrored_line t) < k) ⊎ (k ≤ number_of (mirrored_line t)) → number_of (mirrored_line t) < k
      below f t h (inl less) = less
      below f t h (inr more) =
          let b = h.below in
          let line = (ends_low (mirrored_line t) (mirrored_line f) h.wire).0.1 in
          let same : mirrored_line t ≡ from = number_once (mirrored_line t) from line low (omega arith) in
          let some : target net.wires from ≡ Some (mirrored_line f) =
          subst (λ x. target net.wires x ≡ Some (mirrored_line f)) same h.wire in
          absurd (cc)

  -- an output with a wire
  pub one_more : (k : ℕ) (ws : List Wire) (from to : Line) (w : Wire) → IsListing net.wires k ws → from.line < 4
      → number_of from ≡ k → target net.wires from ≡ Some to → w.from ≡ mirrored_line to → w.to ≡ mirrored_line from
      → IsListing net.wires (k + 1) (ws ++ w ∷ [])
  one_more k ws from to w listed low is wired leaves ends = record {
    wires = same_wires (λ f t. IsMirroredBelow net.wires k f t ⊎ IsWire w f t) (IsMirroredBelow net.wires (k + 1))
        (ws ++ w ∷ [])
        (more_wire (IsMirroredBelow net.wires k) ws w listed.wires no_from no_to) ahead behind;
    few = let few = listed.few in let long = length-append ws (w ∷ []) in omega arith;
  }
    where
      no_from : (t : Line) → IsMirroredBelow net.wires k w.from t → ⊥
      no_from t h =
          let at_to : target net.wires (mirrored_line t) ≡ Some to =
          h.wire ∙ ap Some (ap mirrored_line leaves ∙ line_twice to) in
          let one : source net.wires to ≡ Some (mirrored_line t) = (circuit.one_to_one (mirrored_line t) to).0 at_to in
          let other : source net.wires to ≡ Some from = (circuit.one_to_one from to).0 wired in
          let same : mirrored_line t ≡ from = same_some (mirrored_line t) from (sym one ∙ other) in
          let number : number_of (mirrored_line t) ≡ number_of from = ap number_of same in
          let b = h.below in
          omega arith

      no_to : (f : Line) → IsMirroredBelow net.wires k f w.to → ⊥
      no_to f h =
          let number : number_of (mirrored_line w.to) ≡ number_of from =
          ap number_of (ap mirrored_line ends ∙ line_twice from) in
          let b = h.below in
          omega arith

      ahead : (f t : Line) → IsMirroredBelow net.wires k f t ⊎ IsWire w f t → IsMirroredBelow net.wires (k + 1) f t
      ahead f t (inl h) = record { wire = h.wire; below = let b = h.below in omega arith }
      ahead f t (inr h) =
          let at : mirrored_line t ≡ from = ap mirrored_line (h.ends ∙ ends) ∙ line_twice from in
          let back : mirrored_line f ≡ to = ap mirrored_line (h.leaves ∙ leaves) ∙ line_twice to in
          let number : number_of (mirrored_line t) ≡ number_of from = ap number_of at in
          record { wire = ap (target net.wires) at ∙ wired ∙ ap Some (sym back); below = omega arith }

      behind_by : (f t : Line) → IsMirroredBelow net.wires (k + 1) f t
          → (number_of (mirrored_line t) < k) ⊎ (k ≤ number_of (mirrored_line t))
          → IsMirroredBelow net.wires k f t ⊎ IsWire w f t
      behind_by f t h (inl less) = inl (record { wire = h.wire; below = less })
      behind_by f t h (inr more) =
          let b = h.below in
          let line = (ends_low (mirrored_line t) (mirrored_line f) h.wire).0.1 in
          let same : mirrored_line t ≡ from = number_once (mirrored_line t) from line low (omega arith) in
          let some : target net.wires from ≡ Some (mirrored_line f) =
          subst (λ x. target net.wires x ≡ Some (mirrored_line f)) same h.wire in
          let back : mirrored_line f ≡ to = same_some (mirrored_line f) to (sym some ∙ wired) in
          inr (record {
            leaves = sym (line_twice f) ∙ ap mirrored_line back ∙ sym leaves;
            ends = sym (line_twice t) ∙ ap mirrored_line same ∙ sym ends;
          })

      behind : (f t : Line) → IsMirroredBelow net.wires (k + 1) f t → IsMirroredBelow net.wires k f t ⊎ IsWire w f t
      behind f t h = behind_by f t h (cases_lt (number_of (mirrored_line t)) k)

  -- all outputs
  pub all_listed : (ws : List Wire) → IsListing net.wires (4 * length net.elements) ws
      → AreWiresOf (IsMirroredWire net.wires) ws
  all_listed ws listed =
      same_wires (IsMirroredBelow net.wires (4 * length net.elements)) (IsMirroredWire net.wires) ws listed.wires
      (λ f t h. h.wire)
      (λ f t h. record {
        wire = h;
        below = let low = (ends_low (mirrored_line t) (mirrored_line f) h).0 in omega (arith, low.0, low.1);
      })

  -- the lines of the mirror's wires are there
  pub listed_fitting : (ws : List Wire) → AreWiresOf (IsMirroredWire net.wires) ws → AreFitting (length net.elements) ws
  listed_fitting ws are = record { fits = fits }
    where
      mirrored_low : (l : Line) → (mirrored_line l).line < 4 → l.line < 4
      mirrored_low l h = subst (λ (x : Line). x.line < 4) (line_twice l) (exchanged_within (mirrored_line l).line h)

      fits : (n : ℕ) (w : Wire) → slice_get ws n ≡ Some w → (w.from.element < length net.elements) × (w.from.line < 4)
          × (w.to.element < length net.elements) × (w.to.line < 4)
      fits n w h =
          let wired = are.sound w.from w.to (apart-wire ws n w are.apart h) in
          let low = ends_low (mirrored_line w.to) (mirrored_line w.from) wired in
          (low.1.0, mirrored_low w.from low.1.1, low.0.0, mirrored_low w.to low.0.1)

  -- a net with these wires has the mirror's wires
  pub listed_mirrored : (other : Parts Rotary) (ws : List Wire) (n : ℕ) → AreWiresOf (IsMirroredWire net.wires) ws
      → IsNetOf other n ws → AreMirrored net.wires other.wires
  listed_mirrored other ws n are is from to = (
    λ h. is.targets (mirrored_line to) ∙ are.complete (mirrored_line to) (mirrored_line from)
        (ap (target net.wires) (line_twice from) ∙ h ∙ ap Some (sym (line_twice to))),
    λ h.
        let there = are.sound (mirrored_line to) (mirrored_line from) (sym (is.targets (mirrored_line to)) ∙ h) in
        ap (target net.wires) (sym (line_twice from)) ∙ there ∙ ap Some (line_twice to),
  )
