-- Nets of rotary elements: their circuit is that of their text, and which lines of them are there.
use Rattle.std.specs.Prelude.{◌≡◌, ℕ, ◌<◌, List, [], ◌∷◌, length, map, replicate, Option, Some, None, IfSome, Result}
use Rattle.std.specs.Prelude.{Ok, Err, OnOk, refl}
use Rattle.std.proofs.Common.{arith, sym, ap, subst}
use Rattle.bn_element.specs.Tables.{Table}
use Rattle.bn_element.specs.Rotary.{rotary}
use Rattle.bn_circuits.specs.Circuits.{Circuit, target, IsCircuit, inputs_of, outputs_of}
use Rattle.bn_circuits.specs.declared.line.Line.{Line}
use Rattle.bn_circuits.specs.Parts.{Parts, circuit}
use Rattle.bn_netlist_laws.proofs.WireLemmas.{rotary_outputs, rotary_input}
use Rattle.bn_netlist.specs.NetText.{CircuitsAgree}

-- one table for each element, whichever it is
pub map-replicate : {X : Type 0} (t : Table) (xs : List X) → map (λ _. t) xs ≡ replicate (length xs) t
map-replicate t [] = refl
map-replicate t (x ∷ xs) = ap (λ (ts : List Table). t ∷ ts) (map-replicate t xs)

-- the circuit of a net of rotary elements is that of its text
pub circuits-agree : CircuitsAgree
circuits-agree c = ap (λ (ts : List Table). let k : Circuit = record { tables = ts; wires = c.net.wires } in k)
    (map-replicate rotary c.net.elements)

-- what follows on success
pub on_ok : {A E P Q : Type 0} (r : Result A E) → (P → Q) → OnOk r P → OnOk r Q
on_ok (Ok x) f h = f h
on_ok (Err e) f h = tt

-- each output of an element of a net of rotary elements is there
pub output_there : {X : Type 0} (xs : List X) (e l : ℕ) → e < length xs → l < 4
    → l < outputs_of (map (λ _. rotary) xs) e
output_there xs e l h k =
    let P : List Table → Type 0 = λ ts. l < outputs_of ts e in
    let four = rotary_outputs (length xs) e h in
    let there : l < outputs_of (replicate (length xs) rotary) e = omega (arith, four) in
    subst P (sym (map-replicate rotary xs)) there

-- a wire of the net leads to one of four inputs of an element that is there
target_there : {X : Type 0} (net : Parts X) (from to : Line) → IsCircuit (circuit (λ _. rotary) net)
    → Some to ≡ target net.wires from → (to.element < length net.elements) × (to.line < 4)
target_there net from to c h =
    let there = (c.wired from to (sym h)).1 in
    let P : List Table → Type 0 = λ ts. to.line < inputs_of ts to.element in
    rotary_input (length net.elements) to.element to.line (subst P (map-replicate rotary net.elements) there)

pub end_inside : {X : Type 0} (net : Parts X) (from : Line) (end : Option Line) → IsCircuit (circuit (λ _. rotary) net)
    → end ≡ target net.wires from → IfSome end (λ to. to.element < length net.elements)
end_inside net from None c h = tt
end_inside net from (Some to) c h = (target_there net from to c h).0

pub end_low : {X : Type 0} (net : Parts X) (from : Line) (end : Option Line) → IsCircuit (circuit (λ _. rotary) net)
    → end ≡ target net.wires from → IfSome end (λ to. to.line < 4)
end_low net from None c h = tt
end_low net from (Some to) c h = (target_there net from to c h).1
