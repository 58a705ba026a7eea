-- The wires of a circuit as a list: those inside its parts, part by part, and those between them, one after another.
use Rattle.std.specs.Prelude.{◌≡◌, ℕ, ◌+◌, ◌<◌, ◌≤◌, List, [], ◌∷◌, ◌++◌, length, map, Some, None}
use Rattle.std.specs.Prelude.{slice_get, ◌⊎◌, refl}
use Rattle.std.proofs.Common.{zero, suc, arith, sym, ap, subst, ◌∙◌, inl, inr}
use Rattle.std.proofs.lemmas.Bool.{cases_lt}
use Rattle.std.proofs.lemmas.Bool.Decides.{eqb_tells}
use Rattle.std.proofs.lemmas.Option.{slice_get_within}
use Rattle.bn_element.specs.Tables.{Table}
use Rattle.bn_circuits.specs.Circuits.{target, source, inputs_of, outputs_of}
use Rattle.bn_circuits.specs.Wirings.{AreWiresOf, AreApart}
use Rattle.bn_circuits.proofs.StepLemmas.{same_lines}
use Rattle.bn_circuits.proofs.WiringsLemmas.{IsWire, no_wires, joined_wires, more_wire, same_wires, apart-wire}
use Rattle.bn_circuits.proofs.WiringsLemmas.{apart-IsOneToOne}
use Rattle.bn_circuits.proofs.WireListLemmas.{line_tells}
use Rattle.bn_circuits.specs.declared.line.Line.{Line}
use Rattle.bn_circuits.specs.declared.line.Wire.{Wire}
use Rattle.bn_realise.proofs.BankListsLemmas.{bank_list}
use Rattle.bn_mixed_networks.specs.Parts.{Part, Bank, Single, IsPart, IsAssemblyWire, own, between, part_table}
use Rattle.bn_mixed_networks.specs.Parts.{part_size, part_input, part_output, IsPartWire, base, size}
use Rattle.bn_mixed_networks.specs.Laws.{AreParts}
use Rattle.bn_mixed_networks.specs.Drawing.{IsOwnBelow, IsWiredBelow, IsMapped}
use Rattle.bn_mixed_networks.proofs.PartLemmas.{IsIn, part-square, part-input-in, part-output-in, part-wire-within}
use Rattle.bn_mixed_networks.proofs.PartLemmas.{part-wire-no_input, part-wire-no_output, part-input-once}
use Rattle.bn_mixed_networks.proofs.PartLemmas.{part-output-once}
use Rattle.bn_mixed_networks.proofs.PlaceLemmas.{base-within, parts-apart, one-part, part-of, found, input_table}
use Rattle.bn_mixed_networks.proofs.PlaceLemmas.{output_table}

-- ---- each wire of the network occurs once

-- two wires of a list that begin at one port are one
apart-from : (ws : List Wire) (n c : ℕ) (v w : Wire) → AreApart ws → slice_get ws n ≡ Some v → slice_get ws c ≡ Some w
    → v.from ≡ w.from → n ≡ c
apart-from [] n c v w apart at at' same = absurd (cc)
apart-from (x ∷ ws) zero zero v w apart at at' same = refl
apart-from (x ∷ ws) zero (suc c) v w apart at at' same =
    let is : x ≡ v = cc in
    let none = subst (λ (y : Wire). target ws y.from ≡ None) is apart.0 in
    let some = apart-wire ws c w apart.2 at' in
    let there = subst (λ y. target ws y ≡ None) same none in
    absurd (cc)
apart-from (x ∷ ws) (suc n) zero v w apart at at' same =
    let is : x ≡ w = cc in
    let none = subst (λ (y : Wire). target ws y.from ≡ None) is apart.0 in
    let some = apart-wire ws n v apart.2 at in
    let there = subst (λ y. target ws y ≡ None) (sym same) none in
    absurd (cc)
apart-from (x ∷ ws) (suc n) (suc c) v w apart at at' same = ap suc (apart-from ws n c v w apart.2 at at' same)

-- two wires of a list that end at one port are one
apart-to : (ws : List Wire) (n c : ℕ) (v w : Wire) → AreApart ws → slice_get ws n ≡ Some v → slice_get ws c ≡ Some w
    → v.to ≡ w.to → n ≡ c
apart-to [] n c v w apart at at' same = absurd (cc)
apart-to (x ∷ ws) zero zero v w apart at at' same = refl
apart-to (x ∷ ws) zero (suc c) v w apart at at' same =
    let is : x ≡ v = cc in
    let none = subst (λ (y : Wire). source ws y.to ≡ None) is apart.1 in
    let some = (apart-IsOneToOne ws apart.2 w.from w.to).0 (apart-wire ws c w apart.2 at') in
    let there = subst (λ y. source ws y ≡ None) same none in
    absurd (cc)
apart-to (x ∷ ws) (suc n) zero v w apart at at' same =
    let is : x ≡ w = cc in
    let none = subst (λ (y : Wire). source ws y.to ≡ None) is apart.1 in
    let some = (apart-IsOneToOne ws apart.2 v.from v.to).0 (apart-wire ws n v apart.2 at) in
    let there = subst (λ y. source ws y ≡ None) (sym same) none in
    absurd (cc)
apart-to (x ∷ ws) (suc n) (suc c) v w apart at at' same = ap suc (apart-to ws n c v w apart.2 at at' same)

-- a target comes from a wire of the list
target-number : (ws : List Wire) (from to : Line) → target ws from ≡ Some to
    → (n : ℕ) × (slice_get ws n ≡ Some (record { from = from; to = to }))
target-number [] from to h = absurd (cc)
target-number (w ∷ ws) from to h =
    elim (line_tells w.from from) [
      | inl here ↦ (let found = rw here.0 at h in
          let end : w.to ≡ to = cc in
          (0, ap Some (same_wire w from to here.1 end)))
      | inr there ↦ (let rest = target-number ws from to (rw there.0 at h) in (suc rest.0, rest.1))
    ]
  where
    same_wire : (w : Wire) (from to : Line) → w.from ≡ from → w.to ≡ to → w ≡ record { from = from; to = to }
    same_wire w from to leaves ends = λ i. record { from = leaves i; to = ends i }

-- ---- ports of parts

module _ (ps : List Part) (ws : List Wire) (are : AreParts ps ws) where
  -- a port of a part
  pub record IsPort (l : Line) : Type 0 where
    pub part : Part
    pub has : slice_get ps l.element ≡ Some part
    pub low : l.line < (part_table part).inputs

  pub input-port : (l : Line) → l.line < inputs_of (map part_table ps) l.element → IsPort l
  input-port l low =
      let t = input_table (map part_table ps) l.element l.line low in
      let p = part-of ps l.element t.0 t.1 in
      record { part = p.0; has = p.1; low = subst (λ (x : Table). l.line < x.inputs) (sym p.2) t.2 }

  pub output-port : (l : Line) → l.line < outputs_of (map part_table ps) l.element → IsPort l
  output-port l low =
      let t = output_table (map part_table ps) l.element l.line low in
      let p = part-of ps l.element t.0 t.1 in
      let out = subst (λ (x : Table). l.line < x.outputs) (sym p.2) t.2 in
      record {
        part = p.0;
        has = p.1;
        low = subst (λ x. l.line < x) (part-square p.0 (are.parts l.element p.0 p.1)) out;
      }

  -- two ports of the network whose ports in the circuit are one are one
  pub output-one : (l m : Line) (p q : Part) → slice_get ps l.element ≡ Some p → slice_get ps m.element ≡ Some q
      → l.line < (part_table p).inputs → m.line < (part_table q).inputs
      → part_output p (base ps l.element) l.line ≡ part_output q (base ps m.element) m.line → l ≡ m
  output-one l m p q has is low low' same =
      let here = part-output-in p (base ps l.element) l.line (are.parts l.element p has) low in
      let there = part-output-in q (base ps m.element) m.line (are.parts m.element q is) low' in
      elim (eqb_tells l.element m.element) [
        | inl e ↦ (let one : p ≡ q = one-part ps l.element m.element p q e.1 has is in
            let first = subst (λ x. part_output p (base ps x) l.line ≡ part_output q (base ps m.element) m.line) e.1
            same
            in
            let second = subst (λ x. part_output x (base ps m.element) l.line
            ≡ part_output q (base ps m.element) m.line)
            one first in
            same_lines l m e.1 (part-output-once q (base ps m.element) l.line m.line second))
        | inr apart ↦ (let element = ap (λ (x : Line). x.element) same in
            let low'' = subst (λ x. base ps m.element ≤ x) (sym element) there.low in
            let high'' = subst (λ x. x < base ps m.element + part_size q) (sym element) there.high in
            absurd (parts-apart ps l.element m.element p q (part_output p (base ps l.element) l.line).element has is
            apart.1 here.low here.high low'' high''))
      ]

  pub input-one : (l m : Line) (p q : Part) → slice_get ps l.element ≡ Some p → slice_get ps m.element ≡ Some q
      → l.line < (part_table p).inputs → m.line < (part_table q).inputs
      → part_input p (base ps l.element) l.line ≡ part_input q (base ps m.element) m.line → l ≡ m
  input-one l m p q has is low low' same =
      let here = part-input-in p (base ps l.element) l.line (are.parts l.element p has) low in
      let there = part-input-in q (base ps m.element) m.line (are.parts m.element q is) low' in
      elim (eqb_tells l.element m.element) [
        | inl e ↦ (let one : p ≡ q = one-part ps l.element m.element p q e.1 has is in
            let first = subst (λ x. part_input p (base ps x) l.line ≡ part_input q (base ps m.element) m.line) e.1 same
            in
            let second = subst (λ x. part_input x (base ps m.element) l.line ≡ part_input q (base ps m.element) m.line)
            one first in
            same_lines l m e.1 (part-input-once q (base ps m.element) l.line m.line second))
        | inr apart ↦ (let element = ap (λ (x : Line). x.element) same in
            let low'' = subst (λ x. base ps m.element ≤ x) (sym element) there.low in
            let high'' = subst (λ x. x < base ps m.element + part_size q) (sym element) there.high in
            absurd (parts-apart ps l.element m.element p q (part_input p (base ps l.element) l.line).element has is
            apart.1 here.low here.high low'' high''))
      ]

  -- no own wire leaves an output port of the network, and none ends at an input port
  pub no-own-output : (m : ℕ) (u : Part) (l : Line) (p : Part) (to : Line) → slice_get ps m ≡ Some u
      → slice_get ps l.element ≡ Some p → l.line < (part_table p).inputs
      → IsPartWire u (base ps m) (part_output p (base ps l.element) l.line) to → ⊥
  no-own-output m u l p to at has low wire =
      elim (eqb_tells m l.element) [
        | inl e ↦ (let one : u ≡ p = one-part ps m l.element u p e.1 at has in
            let first = subst (λ x. IsPartWire u (base ps x) (part_output p (base ps l.element) l.line) to) e.1 wire in
            let second = subst (λ v. IsPartWire v (base ps l.element) (part_output p (base ps l.element) l.line) to) one
            first in
            part-wire-no_output p (base ps l.element) l.line to (are.parts l.element p has) low second)
        | inr apart ↦ (let own_in = (part-wire-within u (base ps m) (part_output p (base ps l.element) l.line) to
            (are.parts m u at) wire).leaves in
            let place = part-output-in p (base ps l.element) l.line (are.parts l.element p has) low in
            parts-apart ps m l.element u p (part_output p (base ps l.element) l.line).element at has apart.1 own_in.low
            own_in.high place.low place.high)
      ]

  pub no-own-input : (m : ℕ) (u : Part) (l : Line) (p : Part) (from : Line) → slice_get ps m ≡ Some u
      → slice_get ps l.element ≡ Some p → l.line < (part_table p).inputs
      → IsPartWire u (base ps m) from (part_input p (base ps l.element) l.line) → ⊥
  no-own-input m u l p from at has low wire =
      elim (eqb_tells m l.element) [
        | inl e ↦ (let one : u ≡ p = one-part ps m l.element u p e.1 at has in
            let first = subst (λ x. IsPartWire u (base ps x) from (part_input p (base ps l.element) l.line)) e.1 wire in
            let second = subst (λ v. IsPartWire v (base ps l.element) from (part_input p (base ps l.element) l.line))
            one
            first in
            part-wire-no_input p (base ps l.element) from (part_input p (base ps l.element) l.line) l.line
            (are.parts l.element p has) second low refl)
        | inr apart ↦ (let own_in = (part-wire-within u (base ps m) from (part_input p (base ps l.element) l.line)
            (are.parts m u at) wire).ends in
            let place = part-input-in p (base ps l.element) l.line (are.parts l.element p has) low in
            parts-apart ps m l.element u p (part_input p (base ps l.element) l.line).element at has apart.1 own_in.low
            own_in.high place.low place.high)
      ]

  -- ---- own wires, part by part

  pub own_either : (c : ℕ) (p : Part) → slice_get ps c ≡ Some p → (from to : Line) → IsOwnBelow ps (suc c) from to
      → IsOwnBelow ps c from to ⊎ IsPartWire p (base ps c) from to
  own_either c p has from to h =
      let low = h.low in
      elim (cases_lt h.at_part c) [
        | inl less ↦ inl (record { at_part = h.at_part; part = h.part; low = less; has = h.has; wire = h.wire })
        | inr more ↦
            (let same : h.at_part ≡ c = omega arith in
            let parts = one-part ps h.at_part c h.part p same h.has has in
            inr (subst (λ m. IsPartWire p (base ps m) from to) same
            (subst (λ u. IsPartWire u (base ps h.at_part) from to) parts h.wire)))
      ]

  pub own_none : AreWiresOf (IsOwnBelow ps 0) []
  own_none = no_wires (IsOwnBelow ps 0) (λ from to h. let low = h.low in omega arith)

  pub own_more : (c : ℕ) (p : Part) → slice_get ps c ≡ Some p → (xs ys : List Wire) → AreWiresOf (IsOwnBelow ps c) xs
      → AreWiresOf (IsPartWire p (base ps c)) ys → AreWiresOf (IsOwnBelow ps (suc c)) (xs ++ ys)
  own_more c p has xs ys before here =
      joined_wires (IsOwnBelow ps c) (IsPartWire p (base ps c)) (IsOwnBelow ps (suc c)) xs ys before here
      (λ from to line one two. let low = one.low in
      let first = (part-wire-within one.part (base ps one.at_part) from to (are.parts one.at_part one.part one.has)
      one.wire).leaves in
      let second = (part-wire-within p (base ps c) from line (are.parts c p has) two).leaves in
      parts-apart ps one.at_part c one.part p from.element one.has has (λ e. omega arith) first.low first.high
      second.low
      second.high)
      (λ from to line one two. let low = one.low in
      let first = (part-wire-within one.part (base ps one.at_part) from to (are.parts one.at_part one.part one.has)
      one.wire).ends in
      let second = (part-wire-within p (base ps c) line to (are.parts c p has) two).ends in
      parts-apart ps one.at_part c one.part p to.element one.has has (λ e. omega arith) first.low first.high second.low
      second.high)
      (λ from to h. let low = h.low in record {
        at_part = h.at_part;
        part = h.part;
        low = omega arith;
        has = h.has;
        wire = h.wire;
      })
      (λ from to h. record { at_part = c; part = p; low = omega arith; has = has; wire = h })
      (own_either c p has)

  part_list : (p : Part) (b : ℕ) → IsPart p → (xs : List Wire) × AreWiresOf (IsPartWire p b) xs
  part_list (Bank t) b is = bank_list b t is.0 is.3 is.2
  part_list Single b is = ([], no_wires (λ from to. ⊥) (λ from to h. h))

  own_list : (c : ℕ) → c ≤ length ps → (xs : List Wire) × AreWiresOf (IsOwnBelow ps c) xs
  own_list zero within = ([], own_none)
  own_list (suc c) within =
      let before = own_list c (omega arith) in
      let here = found ps c (omega arith) in
      let bank = part_list here.0 (base ps c) (are.parts c here.0 here.1) in
      (before.0 ++ bank.0, own_more c here.0 here.1 before.0 bank.0 before.1 bank.1)

  -- ---- wires between parts, one after another

  pub wired_none : (xs : List Wire) → AreWiresOf (IsOwnBelow ps (length ps)) xs → AreWiresOf (IsWiredBelow ps ws 0) xs
  wired_none xs before =
      same_wires (IsOwnBelow ps (length ps)) (IsWiredBelow ps ws 0) xs before (λ from to h. inl h)
      (λ from to h. elim h [ inl one ↦ one | inr two ↦ absurd (let low = two.low in omega arith) ])

  pub wired_more : (c : ℕ) (w v : Wire) → slice_get ws c ≡ Some w → IsMapped ps w v → (xs : List Wire)
      → AreWiresOf (IsWiredBelow ps ws c) xs → AreWiresOf (IsWiredBelow ps ws (suc c)) (xs ++ v ∷ [])
  wired_more c w v at mapped xs before =
      let both = more_wire (IsWiredBelow ps ws c) xs v before no_from no_to in
      same_wires (λ from to. IsWiredBelow ps ws c from to ⊎ IsWire v from to) (IsWiredBelow ps ws (suc c))
      (xs ++ v ∷ [])
      both first second
    where
      ends : IsPort w.from × IsPort w.to
      ends = let leads = are.circuit.wired w.from w.to (apart-wire ws c w are.apart at) in
          (output-port w.from leads.0, input-port w.to leads.1)

      p : Part
      p = mapped.first

      q : Part
      q = mapped.second

      out_low : w.from.line < (part_table p).inputs
      out_low = let one = one-part ps w.from.element w.from.element ends.0.part p refl ends.0.has mapped.first_is in
          subst (λ x. w.from.line < (part_table x).inputs) one ends.0.low

      in_low : w.to.line < (part_table q).inputs
      in_low = let one = one-part ps w.to.element w.to.element ends.1.part q refl ends.1.has mapped.second_is in
          subst (λ x. w.to.line < (part_table x).inputs) one ends.1.low

      other_ends : (n : ℕ) (x : Wire) → slice_get ws n ≡ Some x → IsPort x.from × IsPort x.to
      other_ends n x at = let leads = are.circuit.wired x.from x.to (apart-wire ws n x are.apart at) in
          (output-port x.from leads.0, input-port x.to leads.1)

      no_from : (to : Line) → IsWiredBelow ps ws c v.from to → ⊥
      no_from to (inl one) =
          no-own-output one.at_part one.part w.from p to one.has mapped.first_is out_low
          (subst (λ x. IsPartWire one.part (base ps one.at_part) x to) mapped.leaves one.wire)
      no_from to (inr two) =
          let port = (other_ends two.number two.wire two.listed).0 in
          let part = one-part ps two.wire.from.element two.wire.from.element port.part two.first refl port.has
          two.first_is in
          let low = subst (λ x. two.wire.from.line < (part_table x).inputs) part port.low in
          let same = output-one w.from two.wire.from p two.first mapped.first_is two.first_is out_low low
          (sym mapped.leaves ∙ two.leaves) in
          let number = apart-from ws c two.number w two.wire are.apart at two.listed same in
          let less = two.low in
          omega arith

      no_to : (from : Line) → IsWiredBelow ps ws c from v.to → ⊥
      no_to from (inl one) =
          no-own-input one.at_part one.part w.to q from one.has mapped.second_is in_low
          (subst (λ x. IsPartWire one.part (base ps one.at_part) from x) mapped.ends one.wire)
      no_to from (inr two) =
          let port = (other_ends two.number two.wire two.listed).1 in
          let part = one-part ps two.wire.to.element two.wire.to.element port.part two.second refl port.has
          two.second_is in
          let low = subst (λ x. two.wire.to.line < (part_table x).inputs) part port.low in
          let same = input-one w.to two.wire.to q two.second mapped.second_is two.second_is in_low low
          (sym mapped.ends ∙ two.ends) in
          let number = apart-to ws c two.number w two.wire are.apart at two.listed same in
          let less = two.low in
          omega arith

      first : (from to : Line) → IsWiredBelow ps ws c from to ⊎ IsWire v from to → IsWiredBelow ps ws (suc c) from to
      first from to (inl (inl one)) = inl one
      first from to (inl (inr two)) = inr (record {
        number = two.number;
        wire = two.wire;
        first = two.first;
        second = two.second;
        low = let low = two.low in omega arith;
        listed = two.listed;
        first_is = two.first_is;
        second_is = two.second_is;
        leaves = two.leaves;
        ends = two.ends;
      })
      first from to (inr h) = inr (record {
        number = c;
        wire = w;
        first = p;
        second = q;
        low = omega arith;
        listed = at;
        first_is = mapped.first_is;
        second_is = mapped.second_is;
        leaves = h.leaves ∙ mapped.leaves;
        ends = h.ends ∙ mapped.ends;
      })

      second : (from to : Line) → IsWiredBelow ps ws (suc c) from to → IsWiredBelow ps ws c from to ⊎ IsWire v from to
      second from to (inl one) = inl (inl one)
      second from to (inr two) =
          let low = two.low in
          elim (cases_lt two.number c) [
            | inl less ↦ inl (inr (record {
              number = two.number;
              wire = two.wire;
              first = two.first;
              second = two.second;
              low = less;
              listed = two.listed;
              first_is = two.first_is;
              second_is = two.second_is;
              leaves = two.leaves;
              ends = two.ends;
            }))
            | inr more ↦
                (let same : two.number ≡ c = omega arith in
                let wire : two.wire ≡ w = (let h = subst (λ x. slice_get ws x ≡ Some two.wire) same two.listed in cc) in
                let from_part = subst (λ (x : Wire). slice_get ps x.from.element ≡ Some two.first) wire two.first_is in
                let to_part = subst (λ (x : Wire). slice_get ps x.to.element ≡ Some two.second) wire two.second_is in
                let one : two.first ≡ p = one-part ps w.from.element w.from.element two.first p refl from_part
                mapped.first_is in
                let other : two.second ≡ q = one-part ps w.to.element w.to.element two.second q refl to_part
                mapped.second_is in
                inr (record {
                  leaves = two.leaves
                      ∙ ap (λ (x : Wire). part_output two.first (base ps x.from.element) x.from.line) wire
                      ∙ ap (λ x. part_output x (base ps w.from.element) w.from.line) one ∙ sym mapped.leaves;
                  ends = two.ends ∙ ap (λ (x : Wire). part_input two.second (base ps x.to.element) x.to.line) wire
                      ∙ ap (λ x. part_input x (base ps w.to.element) w.to.line) other ∙ sym mapped.ends;
                }))
          ]

  -- all wires are those of the circuit
  pub wired_all : (xs : List Wire) → AreWiresOf (IsWiredBelow ps ws (length ws)) xs
      → AreWiresOf (IsAssemblyWire ps ws) xs
  wired_all xs before = same_wires (IsWiredBelow ps ws (length ws)) (IsAssemblyWire ps ws) xs before first second
    where
      first : (from to : Line) → IsWiredBelow ps ws (length ws) from to → IsAssemblyWire ps ws from to
      first from to (inl one) = own one.at_part one.part one.has one.wire
      first from to (inr two) = between two.wire.from two.wire.to two.first two.second
          (apart-wire ws two.number two.wire are.apart two.listed) two.first_is two.second_is two.leaves two.ends

      second : (from to : Line) → IsAssemblyWire ps ws from to → IsWiredBelow ps ws (length ws) from to
      second from to (own m p has wire) = inl (record {
        at_part = m;
        part = p;
        low = slice_get_within ps m p has;
        has = has;
        wire = wire;
      })
      second from to (between out into p q wired has has' leaves ends) =
          let listed = target-number ws out into wired in
          inr (record {
            number = listed.0;
            wire = record { from = out; to = into };
            first = p;
            second = q;
            low = slice_get_within ws listed.0 (record { from = out; to = into }) listed.1;
            listed = listed.1;
            first_is = has;
            second_is = has';
            leaves = leaves;
            ends = ends;
          })

  mapped_at : (w : Wire) (c : ℕ) → slice_get ws c ≡ Some w → (v : Wire) × IsMapped ps w v
  mapped_at w c at =
      let leads = are.circuit.wired w.from w.to (apart-wire ws c w are.apart at) in
      let from = output-port w.from leads.0 in
      let to = input-port w.to leads.1 in (
        record {
          from = part_output from.part (base ps w.from.element) w.from.line;
          to = part_input to.part (base ps w.to.element) w.to.line;
        },
        record {
          first = from.part;
          second = to.part;
          first_is = from.has;
          second_is = to.has;
          leaves = refl;
          ends = refl;
        },
      )

  wired_list : (c : ℕ) → c ≤ length ws → (xs : List Wire) × AreWiresOf (IsWiredBelow ps ws c) xs
  wired_list zero within = let before = own_list (length ps) (omega arith) in (before.0, wired_none before.0 before.1)
  wired_list (suc c) within =
      let before = wired_list c (omega arith) in
      let here = found ws c (omega arith) in
      let v = mapped_at here.0 c here.1 in
      (before.0 ++ v.0 ∷ [], wired_more c here.0 v.0 here.1 v.1 before.0 before.1)

  -- every network of parts has its wires as a list
  pub all_wires : (xs : List Wire) × AreWiresOf (IsAssemblyWire ps ws) xs
  all_wires = let before = wired_list (length ws) (omega arith) in (before.0, wired_all before.0 before.1)

  widened : (m : ℕ) (p : Part) → slice_get ps m ≡ Some p → (l : Line) → IsIn (base ps m) (part_size p) l
      → IsIn 0 (size ps) l
  widened m p has l h =
      let ends = base-within ps m p has in
      record { low = omega arith; high = omega (arith, h.high); line = h.line }

  -- each wire is within the circuit
  pub wire-within : (from to : Line) → IsAssemblyWire ps ws from to → IsIn 0 (size ps) from × IsIn 0 (size ps) to
  wire-within from to (own m p has wire) =
      let h = part-wire-within p (base ps m) from to (are.parts m p has) wire in
      (widened m p has from h.leaves, widened m p has to h.ends)
  wire-within from to (between out into p q wired has has' leaves ends) =
      let leads = are.circuit.wired out into wired in
      let first = output-port out leads.0 in
      let second = input-port into leads.1 in
      let one = one-part ps out.element out.element first.part p refl first.has has in
      let other = one-part ps into.element into.element second.part q refl second.has has' in
      let low = subst (λ x. out.line < (part_table x).inputs) one first.low in
      let low' = subst (λ x. into.line < (part_table x).inputs) other second.low in (
        subst (IsIn 0 (size ps)) (sym leaves) (widened out.element p has _
            (part-output-in p (base ps out.element) out.line (are.parts out.element p has) low)),
        subst (IsIn 0 (size ps)) (sym ends) (widened into.element q has' _
            (part-input-in q (base ps into.element) into.line (are.parts into.element q has') low')),
      )
