-- The wires of a circuit of rotary elements.
use Rattle.std.specs.Prelude.{◌≡◌, ◌≢◌, ℕ, zero, suc, ◌<◌, ◌≤◌, ◌*◌, List, [], ◌∷◌, length, map, Some, None, Option}
use Rattle.std.specs.Prelude.{IfSome, IfNone, Bool, true, false, not, ◌↔◌}
use Rattle.std.specs.Bool.{then_some}
use Rattle.std.proofs.lemmas.Bool.{cases_lt}
use Rattle.std.proofs.Common.{refl, sym, subst, ◌∙◌, ap, arith, inl, inr}
use Rattle.bn_element.specs.Rotary.{rotary}
use Rattle.bn_element.specs.declared.rotary.Rotary.{Rotary}
use Rattle.bn_circuits.specs.Parts.{Parts, circuit}
use Rattle.bn_circuits.specs.Order.{ComesBefore, ComesFirst, AreInOrder}
use Rattle.bn_circuits.proofs.WireListLemmas.{line_tells}
use Rattle.bn_circuits.specs.Circuits.{Circuit, IsCircuit, IsInputOf, IsOutputOf, target, source, inputs_of, outputs_of}
use Rattle.bn_circuits.specs.declared.line.Line.{Line}
use Rattle.bn_circuits.specs.declared.line.Wire.{Wire}
use Rattle.bn_plan.specs.Lists.{Pairwise}
use Rattle.bn_lists.specs.Lists.{Has}
use Rattle.bn_plan.specs.Wires.{output_position, input_position, greater, AreRotary, AreWiresOf}
use Rattle.bn_plan.specs.Sweeping.{BeginsAt}
use Rattle.bn_plan.proofs.PositionLemmas.{output_input, begins_out, begins_in, out_only, in_only}

-- where no two wires leave one line, each is the wire of its line
target_of_wire : (ws : List Wire) → Pairwise (λ (v w : Wire). v.from ≢ w.from) ws → (w : Wire) → Has ws w
    → target ws w.from ≡ Some w.to
target_of_wire [] apart w h = absurd h
target_of_wire (v ∷ vs) apart w (inl e) = subst (λ (x : Wire). target (v ∷ vs) x.from ≡ Some x.to) (sym e) here
  where
    here : target (v ∷ vs) v.from ≡ Some v.to
    here = elim (line_tells v.from v.from) [ inl same ↦ rw same.0 refl | inr other ↦ absurd (other.1 refl) ]
target_of_wire (v ∷ vs) apart w (inr h) =
    let rest = target_of_wire vs apart.1 w h in
    elim (line_tells v.from w.from) [ inl same ↦ absurd (apart.0 w h same.1) | inr other ↦ rw other.0 rest ]

-- two wires that end at one line begin at one
ends_once : (k : Circuit) (ws : List Wire) → IsCircuit k → AreWiresOf k.wires ws → (v w : Wire) → Has ws v → Has ws w
    → v.to ≡ w.to → v.from ≡ w.from
ends_once k ws circuit are v w h l e =
    let first = (circuit.one_to_one v.from v.to).0 ((are.each v).0 h) in
    let second = (circuit.one_to_one w.from w.to).0 ((are.each w).0 l) in
    let there : source k.wires v.to ≡ Some w.from = ap (source k.wires) e ∙ second in
    cc

-- so no two end at one line
to_apart : (ws : List Wire) → ((v w : Wire) → Has ws v → Has ws w → v.to ≡ w.to → v.from ≡ w.from)
    → Pairwise (λ (v w : Wire). v.from ≢ w.from) ws → Pairwise (λ (v w : Wire). v.to ≢ w.to) ws
to_apart [] once apart = tt
to_apart (v ∷ vs) once apart = (
  (λ w h e. apart.0 w h (once v w (inl refl) (inr h) e)),
  to_apart vs (λ x y h k e. once x y (inr h) (inr k) e) apart.1,
)

-- the wires of such a circuit
pub circuits_are_rotary : (k : Circuit) (ws : List Wire) → IsCircuit k
    → ((e : ℕ) → (inputs_of k.tables e ≤ 4) × (outputs_of k.tables e ≤ 4)) → AreWiresOf k.wires ws → AreRotary ws
circuits_are_rotary k ws circuit four are = record {
  lines = λ w h.
      let wired = circuit.wired w.from w.to ((are.each w).0 h) in
      let outs = (four w.from.element).1 in
      let ins = (four w.to.element).0 in
      let from = wired.0 in
      let to = wired.1 in
      record { from = omega (arith, from, outs); to = omega (arith, to, ins) };
  from_apart = are.once;
  to_apart = to_apart ws (ends_once k ws circuit are) are.once;
}

-- ---- nets

-- a line comes before none that is the same
first_apart : (a : Line) (ws : List Wire) → ComesFirst a ws → (w : Wire) → Has ws w → a ≢ w.from
first_apart a [] first w h same = absurd h
first_apart a (v ∷ vs) first w (inl e) same = differ a v.from first.0 (same ∙ ap (λ (x : Wire). x.from) e)
  where
    differ : (l m : Line) → ComesBefore l m → l ≢ m
    differ l m (inl low) also = let numbers : l.element ≡ m.element =
        ap (λ (x : Line). x.element) also in absurd (omega (arith, low, numbers))
    differ l m (inr low) also = let numbers : l.line ≡ m.line =
        ap (λ (x : Line). x.line) also in absurd (omega (arith, low.1, numbers))
first_apart a (v ∷ vs) first w (inr h) same = first_apart a vs first.1 w h same

-- wires in order leave different lines
order_apart : (ws : List Wire) → AreInOrder ws → Pairwise (λ (v w : Wire). v.from ≢ w.from) ws
order_apart [] order = tt
order_apart (w ∷ ws) order = (first_apart w.from ws order.0, order_apart ws order.1)

-- where a line leads, a wire leads
wire_of_target : (ws : List Wire) (w : Wire) → target ws w.from ≡ Some w.to → Has ws w
wire_of_target [] w is = absurd (cc)
wire_of_target (v ∷ vs) w is = elim (line_tells v.from w.from) [
  | inl same ↦ let to : Some v.to ≡ Some w.to = rw same.0 at is in let also : w.to ≡ v.to =
      cc in inl (λ i. record { from = (sym same.1) i; to = also i })
  | inr other ↦ inr (wire_of_target vs w (rw other.0 at is))
]

-- the wires of a net are those of its circuit
pub net_wires : (ws : List Wire) → AreInOrder ws → AreWiresOf ws ws
net_wires ws order = record {
  each = λ w. (target_of_wire ws (order_apart ws order) w, wire_of_target ws w);
  once = order_apart ws order;
}

-- a list of tables of rotary elements has four lines each way everywhere
four_lines : (elements : List Rotary) (e : ℕ) → (inputs_of (map (λ _. rotary) elements) e ≤ 4)
    × (outputs_of (map (λ _. rotary) elements) e ≤ 4)
four_lines [] e = (omega arith, omega arith)
four_lines (x ∷ xs) zero = (omega arith, omega arith)
four_lines (x ∷ xs) (suc e) = four_lines xs e

-- so the wires of a net of rotary elements stand apart
pub net_rotary : (net : Parts Rotary) → IsCircuit (circuit (λ _. rotary) net) → AreInOrder net.wires
    → AreRotary net.wires
net_rotary net k order = circuits_are_rotary (circuit (λ _. rotary) net) net.wires k (four_lines net.elements)
    (net_wires net.wires order)

-- the lines of elements that are there, and no others
out_range : (elements : List Rotary) (e x : ℕ) → x < outputs_of (map (λ _. rotary) elements) e
    → (e < length elements) × (x < 4)
out_range [] e x h = absurd (omega (arith, h))
out_range (y ∷ ys) zero x h = (omega arith, h)
out_range (y ∷ ys) (suc e) x h = let rest = out_range ys e x h in (let low = rest.0 in omega (arith, low), rest.1)

in_range : (elements : List Rotary) (e x : ℕ) → x < inputs_of (map (λ _. rotary) elements) e
    → (e < length elements) × (x < 4)
in_range [] e x h = absurd (omega (arith, h))
in_range (y ∷ ys) zero x h = (omega arith, h)
in_range (y ∷ ys) (suc e) x h = let rest = in_range ys e x h in (let low = rest.0 in omega (arith, low), rest.1)

pub has_outputs : (elements : List Rotary) (e x : ℕ) → e < length elements → x < 4
    → x < outputs_of (map (λ _. rotary) elements) e
has_outputs [] e x h low = absurd (omega (arith, h))
has_outputs (y ∷ ys) zero x h low = low
has_outputs (y ∷ ys) (suc e) x h low = has_outputs ys e x (omega (arith, h)) low

pub has_inputs : (elements : List Rotary) (e x : ℕ) → e < length elements → x < 4
    → x < inputs_of (map (λ _. rotary) elements) e
has_inputs [] e x h low = absurd (omega (arith, h))
has_inputs (y ∷ ys) zero x h low = low
has_inputs (y ∷ ys) (suc e) x h low = has_inputs ys e x (omega (arith, h)) low

-- a line of one of at most so many elements, of its four
pub record IsNear (most : ℕ) (l : Line) : Type 0 where
  pub element : l.element < most
  pub line : l.line < 4

pub output_near : (net : Parts Rotary) (most : ℕ) (l : Line) → length net.elements ≤ most
    → IsOutputOf (map (λ _. rotary) net.elements) l → IsNear most l
output_near net most l few h = let range = out_range net.elements l.element l.line h in record
    { element = (let low = range.0 in omega (arith, low, few)); line = range.1 }

pub input_near : (net : Parts Rotary) (most : ℕ) (l : Line) → length net.elements ≤ most
    → IsInputOf (map (λ _. rotary) net.elements) l → IsNear most l
input_near net most l few h = let range = in_range net.elements l.element l.line h in record
    { element = (let low = range.0 in omega (arith, low, few)); line = range.1 }

-- where a wire of the net comes from
pub from_near : (net : Parts Rotary) → IsCircuit (circuit (λ _. rotary) net) → (most : ℕ) (from to : Line)
    → length net.elements ≤ most → source net.wires to ≡ Some from → IsNear most from
from_near net k most from to few is = output_near net most from few (k.wired from to ((k.one_to_one from to).1 is)).0

-- ---- the wires of a net by the position at which they begin

module _ (net : Parts Rotary) (k : IsCircuit (circuit (λ _. rotary) net)) (order : AreInOrder net.wires) where
  pub from_output : (from to : Line) → target net.wires from ≡ Some to → output_position from < input_position to
      → BeginsAt net.wires (output_position from) (record { from = from; to = to })
  from_output from to = begins_out net.wires (net_rotary net k order) (net_wires net.wires order) from to

  pub from_input : (from to : Line) → source net.wires to ≡ Some from → input_position to < output_position from
      → BeginsAt net.wires (input_position to) (record { from = from; to = to })
  from_input from to is = begins_in net.wires (net_rotary net k order) (net_wires net.wires order) from to
      ((k.one_to_one from to).1 is)

  -- where an output line has no wire, none begins
  pub no_output : (from : Line) → from.line < 4 → target net.wires from ≡ None → (w : Wire)
      → BeginsAt net.wires (output_position from) w → ⊥
  no_output from low none w b =
      let there : target net.wires from ≡ Some w.to = (out_only net.wires (net_rotary net k order)
      (net_wires net.wires order) from low w b).0 in
      let clash : Some w.to ≡ None = sym there ∙ none in
      absurd (cc)

  pub no_input : (to : Line) → to.line < 4 → source net.wires to ≡ None → (w : Wire)
      → BeginsAt net.wires (input_position to) w → ⊥
  no_input to low none w b =
      let there : target net.wires w.from ≡ Some to = (in_only net.wires (net_rotary net k order)
      (net_wires net.wires order) to low w b).0 in
      let back : source net.wires to ≡ Some w.from = (k.one_to_one w.from to).0 there in
      let clash : Some w.from ≡ None = sym back ∙ none in
      absurd (cc)

  -- nor where its wire begins at the other end
  pub late_output : (from to : Line) → from.line < 4 → target net.wires from ≡ Some to
      → input_position to ≤ output_position from → (w : Wire) → BeginsAt net.wires (output_position from) w → ⊥
  late_output from to low is late w b =
      let only = out_only net.wires (net_rotary net k order) (net_wires net.wires order) from low w b in
      let both : Some w.to ≡ Some to = sym only.0 ∙ is in
      let same : w.to ≡ to = cc in
      let place : input_position w.to ≡ input_position to = ap input_position same in
      let early = only.1 in
      absurd (omega (arith, early, place, late))

  pub late_input : (from to : Line) → to.line < 4 → source net.wires to ≡ Some from
      → output_position from ≤ input_position to → (w : Wire) → BeginsAt net.wires (input_position to) w → ⊥
  late_input from to low is late w b =
      let only = in_only net.wires (net_rotary net k order) (net_wires net.wires order) to low w b in
      let there : source net.wires to ≡ Some w.from = (k.one_to_one w.from to).0 only.0 in
      let both : Some w.from ≡ Some from = sym there ∙ is in
      let same : w.from ≡ from = cc in
      let place : output_position w.from ≡ output_position from = ap output_position same in
      let early = only.1 in
      absurd (omega (arith, early, place, late))

  -- whether the wire of an output line begins there, by the test
  pub output_choice : (from to : Line) → from.line < 4 → target net.wires from ≡ Some to → (b : Bool)
      → (b ≡ true) ↔ (output_position from < input_position to)
      → (r : Option Wire) → r ≡ then_some b (record { from = from; to = to })
      → IfSome r (BeginsAt net.wires (output_position from)) × IfNone r
      ((w : Wire) → BeginsAt net.wires (output_position from) w → ⊥)
  output_choice from to low is true test r e = subst (λ x. IfSome x (BeginsAt net.wires (output_position from))
      × IfNone x ((w : Wire) → BeginsAt net.wires (output_position from) w → ⊥)) (sym e)
      (from_output from to is (test.0 refl), tt)
  output_choice from to low is false test r e = subst (λ x. IfSome x (BeginsAt net.wires (output_position from))
      × IfNone x ((w : Wire) → BeginsAt net.wires (output_position from) w → ⊥)) (sym e)
      (tt, late_output from to low is late)
    where
      late : input_position to ≤ output_position from
      late = elim (cases_lt (output_position from) (input_position to)) [
        | inl h ↦ let clash : false ≡ true = test.1 h in absurd (cc)
        | inr h ↦ h
      ]

  -- and of an input line
  pub input_choice : (from to : Line) → from.line < 4 → to.line < 4 → source net.wires to ≡ Some from → (b : Bool)
      → (b ≡ true) ↔ (output_position from < input_position to)
      → (r : Option Wire) → r ≡ then_some (not b) (record { from = from; to = to })
      → IfSome r (BeginsAt net.wires (input_position to)) × IfNone r
      ((w : Wire) → BeginsAt net.wires (input_position to) w → ⊥)
  input_choice from to low below is true test r e = subst (λ x. IfSome x (BeginsAt net.wires (input_position to))
      × IfNone x ((w : Wire) → BeginsAt net.wires (input_position to) w → ⊥)) (sym e)
      (tt, late_input from to below is (let early = test.0 refl in omega (arith, early)))
  input_choice from to low below is false test r e = subst (λ x. IfSome x (BeginsAt net.wires (input_position to))
      × IfNone x ((w : Wire) → BeginsAt net.wires (input_position to) w → ⊥)) (sym e)
      (from_input from to is late, tt)
    where
      late : input_position to < output_position from
      late = elim (cases_lt (output_position from) (input_position to)) [
        | inl h ↦ let clash : false ≡ true = test.1 h in absurd (cc)
        | inr h ↦ let apart = output_input from to low below in omega (arith, h, apart)
      ]

  -- the lines of a wire are there
  pub ends_near : (most : ℕ) → length net.elements ≤ most → (w : Wire) → Has net.wires w
      → IsNear most w.from × IsNear most w.to
  ends_near most few w h =
      let wired = k.wired w.from w.to (((net_wires net.wires order).each w).0 h) in
      (output_near net most w.from few wired.0, input_near net most w.to few wired.1)

  -- and its ends are positions
  pub ends_within : (w : Wire) → Has net.wires w → greater w < 8 * length net.elements
  unfolding greater
  ends_within w h =
      let near = ends_near (length net.elements) (omega arith) w h in
      let from = near.0.element in
      let from_line = near.0.line in
      let to = near.1.element in
      let to_line = near.1.line in
      omega (arith, from, from_line, to, to_line)
