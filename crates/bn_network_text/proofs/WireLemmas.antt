-- The wires of a line, one after another.
use Rattle.std.specs.Prelude.{◌≡◌, ℕ, ◌+◌, ◌≤◌, Bool, true, false, List, [], ◌∷◌, ◌++◌, length, take, drop}
use Rattle.std.specs.Prelude.{Option, Some, None, is_some, slice_get, if◌then◌else◌, refl}
use Rattle.std.specs.HashMap.{get}
use Rattle.std.proofs.Common.{zero, suc, arith, sym, ap, subst, ◌∙◌}
use Rattle.std.proofs.lemmas.List.{append-nil, append_assoc}
use Rattle.bn_circuits.specs.Circuits.{source, same_line, line_at}
use Rattle.bn_circuits.specs.declared.line.Line.{Line}
use Rattle.bn_circuits.specs.declared.line.Wire.{Wire}
use Rattle.bn_network_text.specs.Entries.{Port}
use Rattle.bn_network_text.specs.Faults.{outputs_fault, wires_from, line_of}
use Rattle.bn_network_text.specs.Drafting.{Fed, IsFed, same_pair, output_fault, wire_by}
use Rattle.bn_network_text.specs.declared.fault.NetworkFault.{NetworkFault}
use Rattle.bn_network_text.specs.declared.sentence.Sentence.{Sentence}
use Rattle.bn_network_text.specs.declared.shape.Shape.{Shape}

-- ---- the ports to which wires lead

by_bool : {X : Type 0} (b : Bool) (x : X) (o : Option X)
    → is_some (if b then Some x else o) ≡ (if b then true else is_some o)
by_bool true x o = refl
by_bool false x o = refl

all_true : (c : Bool) → true ≡ (if c then true else true)
all_true true = refl
all_true false = refl

by_first : (b c : Bool) (x : Line) (o p : Option Line) → is_some o ≡ (if c then true else is_some p)
    → is_some (if b then Some x else o) ≡ (if c then true else is_some (if b then Some x else p))
by_first true c x o p h = all_true c
by_first false c x o p h = h

source_more : (ws : List Wire) (w : Wire) (l : Line)
    → is_some (source (ws ++ w ∷ []) l) ≡ (if same_line w.to l then true else is_some (source ws l))
source_more [] w l = by_bool (same_line w.to l) w.from None
source_more (x ∷ ws) w l =
    by_first (same_line x.to l) (same_line w.to l) x.from (source (ws ++ w ∷ []) l) (source ws l) (source_more ws w l)

pub fed_more : (ws : List Wire) (w : Wire) (old new : Fed)
    → ((p : ℕ × ℕ) → get same_pair new p
    ≡ (if same_pair (w.to.element, w.to.line) p then Some true else get same_pair old p))
    → IsFed ws old → IsFed (ws ++ w ∷ []) new
fed_more ws w old new put fed e l =
    ap is_some (put (e, l)) ∙ by_bool (same_pair (w.to.element, w.to.line) (e, l)) true (get same_pair old (e, l))
    ∙ ap (λ b. if same_pair (w.to.element, w.to.line) (e, l) then true else b) (fed e l)
    ∙ sym (source_more ws w (line_at e l))

-- ---- outputs

drop_next : {X : Type 0} (xs : List X) (i : ℕ) (x : X) → slice_get xs i ≡ Some x → drop i xs ≡ x ∷ drop (suc i) xs
drop_next [] i x h = absurd (cc)
drop_next (y ∷ xs) zero x h = let same : y ≡ x = cc in ap (λ z. z ∷ xs) same
drop_next (y ∷ xs) (suc i) x h = drop_next xs i x h

take_next : {X : Type 0} (xs : List X) (i : ℕ) (x : X) → slice_get xs i ≡ Some x → take (suc i) xs ≡ take i xs ++ x ∷ []
take_next [] i x h = absurd (cc)
take_next (y ∷ xs) zero x h = let same : y ≡ x = cc in ap (λ z. z ∷ []) same
take_next (y ∷ xs) (suc i) x h = ap (λ z. y ∷ z) (take_next xs i x h)

length_taken : {X : Type 0} (xs : List X) (i : ℕ) → i ≤ length xs → length (take i xs) ≡ i
length_taken xs zero h = refl
length_taken [] (suc i) h = absurd (omega arith)
length_taken (x ∷ xs) (suc i) h = ap suc (length_taken xs i (omega arith))

wires_push : (m o : ℕ) (xs : List (Option Port)) (x : Option Port)
    → wires_from m o (xs ++ x ∷ []) ≡ wires_from m o xs ++ wire_by (line_at m (o + length xs)) x
wires_push m o [] None = refl
wires_push m o [] (Some p) = let same : o ≡ o + 0 = omega arith in
    ap (λ n. record { from = line_at m n; to = line_of p } ∷ []) same
wires_push m o (None ∷ xs) x =
    let same : suc o + length xs ≡ o + suc (length xs) = omega arith in
    wires_push m (suc o) xs x ∙ ap (λ n. wires_from m (suc o) xs ++ wire_by (line_at m n) x) same
wires_push m o (Some p ∷ xs) x =
    let same : suc o + length xs ≡ o + suc (length xs) = omega arith in
    ap (λ ys. record { from = line_at m o; to = line_of p } ∷ ys)
    (wires_push m (suc o) xs x ∙ ap (λ n. wires_from m (suc o) xs ++ wire_by (line_at m n) x) same)

module _ (shapes : List Shape) (says : List (Option Sentence)) (m : ℕ) where
  outputs_next : (ws : List Wire) (o : ℕ) (x : Option Port) (xs : List (Option Port))
      → output_fault shapes says ws (line_at m o) x ≡ None
      → outputs_fault shapes says ws m o (x ∷ xs) ≡ outputs_fault shapes says (ws ++ wire_by (line_at m o) x) m (suc o)
      xs
  outputs_next ws o None xs none = ap (λ vs. outputs_fault shapes says vs m (suc o) xs) (sym (append-nil ws))
  outputs_next ws o (Some p) xs none = rw none refl

  outputs_bad : (ws : List Wire) (o : ℕ) (x : Option Port) (xs : List (Option Port)) (fault : NetworkFault)
      → output_fault shapes says ws (line_at m o) x ≡ Some fault
      → outputs_fault shapes says ws m o (x ∷ xs) ≡ Some fault
  outputs_bad ws o None xs fault bad = absurd (cc)
  outputs_bad ws o (Some p) xs fault bad = rw bad refl

  -- the first outputs have no fault, and their wires were added
  pub record AreJoined (ws : List Wire) (targets : List (Option Port)) (i : ℕ) (now : List Wire) : Type 0 where
    pub wires : now ≡ ws ++ wires_from m 0 (take i targets)
    pub faults : outputs_fault shapes says ws m 0 targets ≡ outputs_fault shapes says now m i (drop i targets)

  pub joined_begin : (ws : List Wire) (targets : List (Option Port)) → AreJoined ws targets 0 ws
  joined_begin ws targets = record { wires = sym (append-nil ws); faults = refl }

  pub joined_more : (ws now : List Wire) (targets : List (Option Port)) (i : ℕ) (x : Option Port)
      → slice_get targets i ≡ Some x → i ≤ length targets → output_fault shapes says now (line_at m i) x ≡ None
      → AreJoined ws targets i now → AreJoined ws targets (i + 1) (now ++ wire_by (line_at m i) x)
  joined_more ws now targets i x has low none h =
      let next : i + 1 ≡ suc i = omega arith in
      let count = length_taken targets i low in
      let at : 0 + length (take i targets) ≡ i = omega arith in
      let more : now ++ wire_by (line_at m i) x ≡ ws ++ wires_from m 0 (take (suc i) targets) =
      ap (λ vs. vs ++ wire_by (line_at m i) x) h.wires
      ∙ append_assoc ws (wires_from m 0 (take i targets)) (wire_by (line_at m i) x)
      ∙ ap (λ vs. ws ++ vs) (sym (ap (wires_from m 0) (take_next targets i x has)
      ∙ wires_push m 0 (take i targets) x
      ∙ ap (λ n. wires_from m 0 (take i targets) ++ wire_by (line_at m n) x) at)) in
      let rest : outputs_fault shapes says ws m 0 targets
      ≡ outputs_fault shapes says (now ++ wire_by (line_at m i) x) m (suc i) (drop (suc i) targets) =
      h.faults ∙ ap (outputs_fault shapes says now m i) (drop_next targets i x has)
      ∙ outputs_next now i x (drop (suc i) targets) none in
      subst (λ n. AreJoined ws targets n (now ++ wire_by (line_at m i) x)) (sym next)
      (record { wires = more; faults = rest })

  pub joined_bad : (ws now : List Wire) (targets : List (Option Port)) (i : ℕ) (x : Option Port) (fault : NetworkFault)
      → slice_get targets i ≡ Some x → output_fault shapes says now (line_at m i) x ≡ Some fault
      → AreJoined ws targets i now → outputs_fault shapes says ws m 0 targets ≡ Some fault
  joined_bad ws now targets i x fault has bad h =
      h.faults ∙ ap (outputs_fault shapes says now m i) (drop_next targets i x has)
      ∙ outputs_bad now i x (drop (suc i) targets) fault bad

  taken_all : {X : Type 0} (xs : List X) (i : ℕ) → length xs ≤ i → take i xs ≡ xs
  taken_all [] zero h = refl
  taken_all [] (suc i) h = refl
  taken_all (x ∷ xs) zero h = absurd (omega arith)
  taken_all (x ∷ xs) (suc i) h = ap (λ ys. x ∷ ys) (taken_all xs i (omega arith))

  dropped_all : {X : Type 0} (xs : List X) (i : ℕ) → length xs ≤ i → drop i xs ≡ []
  dropped_all [] zero h = refl
  dropped_all [] (suc i) h = refl
  dropped_all (x ∷ xs) zero h = absurd (omega arith)
  dropped_all (x ∷ xs) (suc i) h = dropped_all xs i (omega arith)

  pub joined_wires : (ws now : List Wire) (targets : List (Option Port)) (i : ℕ) → length targets ≤ i
      → AreJoined ws targets i now → now ≡ ws ++ wires_from m 0 targets
  joined_wires ws now targets i all h = h.wires ∙ ap (λ xs. ws ++ wires_from m 0 xs) (taken_all targets i all)

  pub joined_faultless : (ws now : List Wire) (targets : List (Option Port)) (i : ℕ) → length targets ≤ i
      → AreJoined ws targets i now → outputs_fault shapes says ws m 0 targets ≡ None
  joined_faultless ws now targets i all h = h.faults ∙ ap (outputs_fault shapes says now m i)
      (dropped_all targets i all)
