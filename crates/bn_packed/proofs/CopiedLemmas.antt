-- The wires that are told of a packed net are the net's, and the net that is made of them is that net.
use Rattle.std.specs.Prelude.{◌≡◌, ℕ, ◌+◌, ◌<◌, List, [], ◌∷◌, ◌++◌, length, Option, Some, None, refl, ◌⊎◌}
use Rattle.std.proofs.Common.{arith, sym, ap, subst, ◌∙◌, inl, inr}
use Rattle.std.proofs.lemmas.Bool.{cases_lt}
use Rattle.bn_circuits.specs.Circuits.{IsCircuit, line_at, target}
use Rattle.bn_circuits.proofs.StepLemmas.{same_lines}
use Rattle.bn_circuits.specs.declared.line.Line.{Line}
use Rattle.bn_circuits.specs.declared.line.Wire.{Wire}
use Rattle.bn_element.specs.declared.rotary.Rotary.{Rotary}
use Rattle.bn_circuits.specs.Parts.{Parts}
use Rattle.bn_circuits.specs.Order.{ComesBefore, AreInOrder}
use Rattle.bn_circuits.proofs.OrderLemmas.{in_order-same}
use Rattle.bn_circuits.specs.RotaryNets.{rotary_circuit, IsNetOf}
use Rattle.bn_circuits.specs.Wirings.{AreWiresOf, AreFitting}
use Rattle.bn_circuits.proofs.WiringsLemmas.{IsWire, more_wire, same_wires, apart-wire}
use Rattle.bn_packed.specs.Ends.{rotaries}
use Rattle.bn_packed.proofs.EndLemmas.{rotaries_all, output_below, input_below}
use Rattle.bn_packed.specs.CopiedWires.{IsTargetBefore}

-- lines before one, and before the next
before_next : (e l : ℕ) (x : Line) → ComesBefore x (line_at e (l + 1)) → ComesBefore x (line_at e l) ⊎ (x ≡ line_at e l)
before_next e l x (inl low) = inl (inl low)
before_next e l x (inr h) =
    elim (cases_lt x.line l) [
      | inl less ↦ inl (inr (h.0, less))
      | inr more ↦ (let few = h.1 in inr (same_lines x (line_at e l) h.0 (omega arith)))
    ]

before_more : (e l : ℕ) (x : Line) → ComesBefore x (line_at e l) → ComesBefore x (line_at e (l + 1))
before_more e l x (inl low) = inl low
before_more e l x (inr h) = let few = h.1 in inr (h.0, omega arith)

not_before_itself : (e l : ℕ) → ComesBefore (line_at e l) (line_at e l) → ⊥
not_before_itself e l (inl low) = omega arith
not_before_itself e l (inr h) = let few = h.1 in omega arith

module _ (net : Parts Rotary) (is : IsCircuit (rotary_circuit net)) where
  -- after a line that no wire leaves
  pub told_none : (e l : ℕ) (ws : List Wire) → target net.wires (line_at e l) ≡ None
      → AreWiresOf (IsTargetBefore net.wires e l) ws → AreWiresOf (IsTargetBefore net.wires e (l + 1)) ws
  told_none e l ws none so =
      same_wires (IsTargetBefore net.wires e l) (IsTargetBefore net.wires e (l + 1)) ws so
      (λ from to h. record { leads = h.leads; before = before_more e l from h.before })
      (λ from to h. elim (before_next e l from h.before) [
        | inl earlier ↦ record { leads = h.leads; before = earlier }
        | inr here ↦ absurd (let leads = h.leads in
            let at = subst (λ x. target net.wires x ≡ Some to) here leads in cc)
      ])

  -- after one that a wire leaves
  pub told_one : (e l : ℕ) (to : Line) (ws : List Wire) → target net.wires (line_at e l) ≡ Some to
      → AreWiresOf (IsTargetBefore net.wires e l) ws
      → AreWiresOf (IsTargetBefore net.wires e (l + 1)) (ws ++ record { from = line_at e l; to = to } ∷ [])
  told_one e l to ws leads so =
      same_wires (λ x y. IsTargetBefore net.wires e l x y ⊎ IsWire (record { from = line_at e l; to = to }) x y)
      (IsTargetBefore net.wires e (l + 1)) (ws ++ record { from = line_at e l; to = to } ∷ [])
      (more_wire (IsTargetBefore net.wires e l) ws (record { from = line_at e l; to = to }) so
      (λ x h. not_before_itself e l h.before)
      (λ x h.
      let one = (is.one_to_one x to).0 h.leads in
      let other = (is.one_to_one (line_at e l) to).0 leads in
      let same : x ≡ line_at e l = cc in
      not_before_itself e l (subst (λ y. ComesBefore y (line_at e l)) same h.before)))
      forth back
    where
      forth : (x y : Line) → IsTargetBefore net.wires e l x y ⊎ IsWire (record { from = line_at e l; to = to }) x y
          → IsTargetBefore net.wires e (l + 1) x y
      forth x y (inl h) = record { leads = h.leads; before = before_more e l x h.before }
      forth x y (inr h) = record {
        leads = subst (λ a. target net.wires a ≡ Some y) (sym h.leaves) (leads ∙ ap (λ a. Some a) (sym h.ends));
        before = subst (λ a. ComesBefore a (line_at e (l + 1))) (sym h.leaves) (inr (refl, omega arith));
      }

      back : (x y : Line) → IsTargetBefore net.wires e (l + 1) x y
          → IsTargetBefore net.wires e l x y ⊎ IsWire (record { from = line_at e l; to = to }) x y
      back x y h = elim (before_next e l x h.before) [
        | inl earlier ↦ inl (record { leads = h.leads; before = earlier })
        | inr here ↦ inr (record {
          leaves = here;
          ends = (let there = subst (λ a. target net.wires a ≡ Some y) here h.leads in
              let same : ◌≡◌ {A = Option Line} (Some y) (Some to) = sym there ∙ leads in cc);
        })
      ]

  -- after an element's last line
  pub told_all_lines : (e l : ℕ) (ws : List Wire) → l ≡ 4 → AreWiresOf (IsTargetBefore net.wires e l) ws
      → AreWiresOf (IsTargetBefore net.wires (e + 1) 0) ws
  told_all_lines e l ws four so =
      same_wires (IsTargetBefore net.wires e l) (IsTargetBefore net.wires (e + 1) 0) ws so
      (λ from to h. record {
        leads = h.leads;
        before = elim h.before [
          | inl low ↦ inl (omega arith)
          | inr same ↦ (let at = same.0 in inl (omega arith))
        ];
      })
      (λ from to h. record {
        leads = h.leads;
        before = elim h.before [
          | inl low ↦ near from to h.leads low
          | inr same ↦ absurd (let few = same.1 in omega arith)
        ];
      })
    where
      near : (from to : Line) → target net.wires from ≡ Some to → from.element < e + 1 → ComesBefore from (line_at e l)
      near from to leads low =
          let line = (output_below net.elements from (is.wired from to leads).0).line in
          elim (cases_lt from.element e) [
            | inl less ↦ inl less
            | inr more ↦ inr (omega arith, omega arith)
          ]

  -- the whole list leads where the net does
  pub told_whole : (ws : List Wire) → AreWiresOf (IsTargetBefore net.wires (length net.elements) 0) ws
      → (from : Line) → target ws from ≡ target net.wires from
  told_whole ws so from =
      same (target ws from) (target net.wires from) (λ to h. (so.sound from to h).leads)
      (λ to h. so.complete from to (record {
        leads = h;
        before = inl (output_below net.elements from (is.wired from to h).0).element;
      }))
    where
      same : (a b : Option Line) → ((to : Line) → a ≡ Some to → b ≡ Some to)
          → ((to : Line) → b ≡ Some to → a ≡ Some to) → a ≡ b
      same None None forth back = refl
      same None (Some y) forth back = back y refl
      same (Some x) b forth back = sym (forth x refl)

  -- they fit
  pub told_fits : (ws : List Wire) → AreWiresOf (IsTargetBefore net.wires (length net.elements) 0) ws
      → AreFitting (length net.elements) ws
  told_fits ws so = record {
    fits = λ i w h.
        let leads = (so.sound w.from w.to (apart-wire ws i w so.apart h)).leads in
        let wired = is.wired w.from w.to leads in
        let out = output_below net.elements w.from wired.0 in
        let into = input_below net.elements w.to wired.1 in
        (out.element, out.line, into.element, into.line);
  }

  -- and the net that is made of them is the net
  pub told_again : (other : Parts Rotary) (ws : List Wire)
      → AreWiresOf (IsTargetBefore net.wires (length net.elements) 0) ws → AreInOrder net.wires
      → AreInOrder other.wires → IsNetOf other (length net.elements) ws → other ≡ net
  told_again other ws so order order' made =
      let wires = in_order-same other.wires net.wires order' order (λ a. made.targets a ∙ told_whole ws so a) in
      let elements : other.elements ≡ net.elements =
      sym (rotaries_all other.elements) ∙ (λ i. rotaries (made.elements i)) ∙ rotaries_all net.elements in
      (λ i. record { elements = elements i; wires = wires i })
