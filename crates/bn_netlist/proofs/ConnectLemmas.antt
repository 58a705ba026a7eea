-- The wires of some outputs of an element as they are added one by one.
use Rattle.std.specs.Prelude.{◌≡◌, ℕ, ◌+◌, ◌*◌, ◌<◌, ◌≤◌, Bool, true, List, [], ◌∷◌, ◌++◌, length, drop, Option, Some}
use Rattle.std.specs.Prelude.{None, Ok, Err, slice_get, slice_set, refl}
use Rattle.std.proofs.Common.{zero, suc, arith, sym, ap, subst, ◌∙◌}
use Rattle.std.proofs.lemmas.List.{append_assoc, append-nil}
use Rattle.std.proofs.lemmas.Option.{same_Some}
use Rattle.bn_circuits.specs.declared.line.Line.{Line}
use Rattle.bn_circuits.specs.declared.line.Wire.{Wire}
use Rattle.bn_netlist_laws.specs.Sentences.{AreNameable}
use Rattle.bn_netlist_laws.specs.Reading.{named, named_target, named_targets}
use Rattle.bn_netlist_laws.specs.Faults.{wires_from}
use Rattle.bn_circuits.specs.Wirings.{AreApart}
use Rattle.bn_packed.specs.Drafts.{AreDrawn}
use Rattle.bn_packed.specs.Ends.{EndList}
use Rattle.bn_netlist.specs.Drafting.{AreKept, HasDrawn, IsFed}
use Rattle.bn_netlist_laws.specs.Faults.{Fault, wire_fault, outputs_fault}
use Rattle.bn_netlist_laws.specs.Spelling.{header_then}
use Rattle.bn_netlist_laws.specs.declared.header.Header.{Header}
use Rattle.bn_netlist_laws.proofs.FitLemmas.{wire_passes}
use Rattle.bn_netlist.specs.Drafting.{tested, RefusesBy, wants_memory, finds, Connects, ConnectsAll}
use Rattle.bn_netlist.specs.declared.line_refusal.NetlistRefusal.{NetlistRefusal}
use Rattle.bn_netlist.proofs.DraftLemmas.{drawn_more, fed_more}

-- what a test answered
pub tested-Err : (o : Option Fault) (line : ℕ) (to : Line) (r : NetlistRefusal) → Err r ≡ tested o line to
    → RefusesBy o line r
tested-Err None line to r h = absurd (cc)
tested-Err (Some f) line to r h = finds f refl cc

pub tested-Ok : (o : Option Fault) (line : ℕ) (to l : Line) → Ok l ≡ tested o line to → (o ≡ None) × (l ≡ to)
tested-Ok None line to l h = (refl, cc)
tested-Ok (Some f) line to l h = absurd (cc)

pub connected : (h : Header) (n : ℕ) (from to l : Line) (ws : List Wire) (old new : EndList) (fed : List Bool)
    → AreKept h.count ws old fed → Ok l ≡ tested (wire_fault (header_then h []) ws from to) n to → to.line < 4
    → new.elements ≡ old.elements
    → ((us : List Wire) → AreDrawn old.elements us old → AreApart (us ++ record { from = from; to = l } ∷ [])
    → AreDrawn old.elements (us ++ record { from = from; to = l } ∷ []) new)
    → Connects h from to ws new (slice_set fed (4 * l.element + l.line) true)
connected h n from to l ws old new fed kept answer low elements grows =
    let both = tested-Ok (wire_fault (header_then h []) ws from to) n to l answer in
    let there = (wire_passes h [] ws from to both.0).there in
    let w : Line → Wire = λ x. record { from = from; to = x } in
    let drawn : HasDrawn h.count (ws ++ w l ∷ []) new =
    drawn_more h.count ws (w l ∷ []) old new kept.drawn_are elements grows in
    let more : IsFed h.count (ws ++ w to ∷ []) (slice_set fed (4 * to.element + to.line) true) =
    fed_more h.count ws (w to) fed kept.marked there low in
    record {
      faultless = both.0;
      kept = record {
        drawn_are = subst (λ (x : Line). HasDrawn h.count (ws ++ w x ∷ []) new) both.1 drawn;
        marked = subst (λ (x : Line). IsFed h.count (ws ++ w to ∷ [])
            (slice_set fed (4 * x.element + x.line) true)) (sym both.1) more;
      };
    }

-- The wires of outputs of an element have been added behind these up to output p, the i-th of them, and the others are
-- still to come.
pub record IsConnected (h : Header) (e o : ℕ) (xs : List (Option Line)) (old : List Wire) (drawn : EndList)
    (fed : List Bool) (i p : ℕ) : Type 0 where
  pub wires : List Wire
  pub fault : outputs_fault (header_then h []) old e o xs ≡ outputs_fault (header_then h []) wires e p (drop i xs)
  pub wires_are : wires ++ wires_from e p (drop i xs) ≡ old ++ wires_from e o xs
  pub kept : AreKept h.count wires drawn fed

pub connected_start : (h : Header) (e o p : ℕ) (xs : List (Option Line)) (old : List Wire) (drawn : EndList)
    (fed : List Bool) → p ≡ o → AreKept h.count old drawn fed → IsConnected h e o xs old drawn fed 0 p
connected_start h e o p xs old drawn fed at_o kept =
    record {
      wires = old;
      fault = ap (λ (n : ℕ). outputs_fault (header_then h []) old e n xs) (sym at_o);
      wires_are = ap (λ (n : ℕ). old ++ wires_from e n xs) at_o;
      kept = kept;
    }

drop_next : {X : Type 0} (xs : List X) (i : ℕ) (x : X) → slice_get xs i ≡ Some x → drop i xs ≡ x ∷ drop (suc i) xs
drop_next [] i x h = absurd (cc)
drop_next (y ∷ xs) zero x h = let same = same_Some y x h in ap (λ z. z ∷ xs) same
drop_next (y ∷ xs) (suc i) x h = drop_next xs i x h

target_named : (ts : List (Option (ℕ × ℕ))) (i : ℕ) (t : Option (ℕ × ℕ)) → slice_get ts i ≡ Some t
    → slice_get (named_targets ts) i ≡ Some (named_target t)
target_named [] i t h = absurd (cc)
target_named (u ∷ ts) zero t h = ap (λ (v : Option (ℕ × ℕ)). Some (named_target v)) (same_Some u t h)
target_named (u ∷ ts) (suc i) t h = target_named ts i t h

at_next : (h : Header) (e o : ℕ) (xs : List (Option Line)) (old : List Wire) (drawn : EndList) (fed : List Bool)
    (i p j q : ℕ) → j ≡ suc i → q ≡ suc p → IsConnected h e o xs old drawn fed (suc i) (suc p)
    → IsConnected h e o xs old drawn fed j q
at_next h e o xs old drawn fed i p j q next further is =
    subst (λ (n : ℕ). IsConnected h e o xs old drawn fed n q) (sym next)
    (subst (IsConnected h e o xs old drawn fed (suc i)) (sym further) is)

pub connected_skip : (h : Header) (e o : ℕ) (ts : List (Option (ℕ × ℕ))) (old : List Wire) (drawn : EndList)
    (fed : List Bool) (i p j q : ℕ) → j ≡ suc i → q ≡ suc p → slice_get ts i ≡ Some None
    → IsConnected h e o (named_targets ts) old drawn fed i p → IsConnected h e o (named_targets ts) old drawn fed j q
connected_skip h e o ts old drawn fed i p j q next further has is =
    let here = drop_next (named_targets ts) i None (target_named ts i None has) in
    at_next h e o (named_targets ts) old drawn fed i p j q next further
    (record {
      wires = is.wires;
      fault = is.fault ∙ ap (λ (xs : List (Option Line)). outputs_fault (header_then h []) is.wires e p xs) here;
      wires_are = ap (λ (xs : List (Option Line)). is.wires ++ wires_from e p xs) (sym here) ∙ is.wires_are;
      kept = is.kept;
    })

pub connected_more : (h : Header) (e o : ℕ) (ts : List (Option (ℕ × ℕ))) (to : ℕ × ℕ) (old : List Wire)
    (drawn new : EndList) (fed fed_new : List Bool) (i p j q : ℕ) → j ≡ suc i → q ≡ suc p
    → slice_get ts i ≡ Some (Some to) → (is : IsConnected h e o (named_targets ts) old drawn fed i p)
    → Connects h (record { element = e; line = p }) (named to) is.wires new fed_new
    → IsConnected h e o (named_targets ts) old new fed_new j q
connected_more h e o ts to old drawn new fed fed_new i p j q next further has is connects =
    let from : Line = record { element = e; line = p } in
    let w : Wire = record { from = from; to = named to } in
    let rest = drop (suc i) (named_targets ts) in
    let here = drop_next (named_targets ts) i (Some (named to)) (target_named ts i (Some to) has) in
    let none = connects.faultless in
    let fault_here : outputs_fault (header_then h []) is.wires e p (Some (named to) ∷ rest)
    ≡ outputs_fault (header_then h []) (is.wires ++ w ∷ []) e (suc p) rest = rw none refl in
    at_next h e o (named_targets ts) old new fed_new i p j q next further
    (record {
      wires = is.wires ++ w ∷ [];
      fault = is.fault ∙ ap (λ (xs : List (Option Line)). outputs_fault (header_then h []) is.wires e p xs) here
          ∙ fault_here;
      wires_are = append_assoc is.wires (w ∷ []) (wires_from e (suc p) rest)
          ∙ ap (λ (xs : List (Option Line)). is.wires ++ wires_from e p xs) (sym here) ∙ is.wires_are;
      kept = connects.kept;
    })

drop_past : {X : Type 0} (xs : List X) (i : ℕ) → length xs ≤ i → drop i xs ≡ []
drop_past [] zero h = refl
drop_past [] (suc i) h = refl
drop_past (x ∷ xs) zero h = absurd (omega arith)
drop_past (x ∷ xs) (suc i) h = drop_past xs i (omega arith)

pub connected_end : (h : Header) (e o : ℕ) (xs : List (Option Line)) (old : List Wire) (drawn : EndList)
    (fed : List Bool) (i p : ℕ) → length xs ≤ i → IsConnected h e o xs old drawn fed i p
    → ConnectsAll h e o xs old drawn fed
connected_end h e o xs old drawn fed i p past is =
    let none = drop_past xs i past in
    let are : is.wires ≡ old ++ wires_from e o xs = sym (append-nil is.wires)
    ∙ ap (λ (ys : List (Option Line)). is.wires ++ wires_from e p ys) (sym none) ∙ is.wires_are in
    record {
      faultless = is.fault ∙ ap (λ (ys : List (Option Line)). outputs_fault (header_then h []) is.wires e p ys) none;
      kept = subst (λ (vs : List Wire). AreKept h.count vs drawn fed) are is.kept;
    }

pub connected_fault : (h : Header) (e o n : ℕ) (ts : List (Option (ℕ × ℕ))) (to : ℕ × ℕ) (old : List Wire)
    (drawn : EndList) (fed : List Bool) (i p : ℕ) (r : NetlistRefusal) → slice_get ts i ≡ Some (Some to)
    → (is : IsConnected h e o (named_targets ts) old drawn fed i p) → RefusesBy
    (wire_fault (header_then h []) is.wires (record { element = e; line = p }) (named to)) n r
    → RefusesBy (outputs_fault (header_then h []) old e o (named_targets ts)) n r
connected_fault h e o n ts to old drawn fed i p r has is (wants_memory want) = wants_memory want
connected_fault h e o n ts to old drawn fed i p r has is (finds f found named_r) =
    let rest = drop (suc i) (named_targets ts) in
    let here = drop_next (named_targets ts) i (Some (named to)) (target_named ts i (Some to) has) in
    let fault_here : outputs_fault (header_then h []) is.wires e p (Some (named to) ∷ rest) ≡ Some f = rw found refl in
    finds f (is.fault ∙ ap (λ (xs : List (Option Line)). outputs_fault (header_then h []) is.wires e p xs) here
    ∙ fault_here) named_r

-- what a test answers, by the first of the faults of a wire that it has

pub nameable_at : (ts : List (Option (ℕ × ℕ))) (i : ℕ) (to : ℕ × ℕ) → AreNameable (named_targets ts)
    → slice_get ts i ≡ Some (Some to) → to.1 < 4
nameable_at [] i to named_all h = absurd (cc)
nameable_at (None ∷ ts) zero to named_all h = absurd (let same = same_Some None (Some to) h in cc)
nameable_at (Some l ∷ ts) zero to named_all h = let same = same_Some (Some l) (Some to) h in let one : l ≡ to =
    same_Some l to same in let low : l.1 < 4 = named_all.0.1 in let second : l.1
    ≡ to.1 = ap (λ (p : ℕ × ℕ). p.1) one in omega arith
nameable_at (None ∷ ts) (suc i) to named_all h = nameable_at ts i to named_all h
nameable_at (Some l ∷ ts) (suc i) to named_all h = nameable_at ts i to named_all.1 h

pub length-named_targets : (xs : List (Option (ℕ × ℕ))) → length (named_targets xs) ≡ length xs
length-named_targets [] = refl
length-named_targets (x ∷ xs) = ap suc (length-named_targets xs)
