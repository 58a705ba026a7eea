-- The network that a text describes is sound.
use Rattle.std.specs.Prelude.{◌≡◌, ◌≢◌, ℕ, ◌+◌, ◌<◌, ◌≤◌, Bool, true, false, List, []}
use Rattle.std.specs.Prelude.{◌∷◌, ◌++◌, length, Option, Some, None, is_some, if◌then◌else◌, slice_get, ◌⊎◌, refl}
use Rattle.std.proofs.Common.{zero, suc, arith, sym, ap, subst, ◌∙◌, inl, inr}
use Rattle.std.proofs.lemmas.List.{append-nil, append_assoc}
use Rattle.bn_circuits.specs.Circuits.{source, target, same_line, line_at}
use Rattle.bn_circuits.specs.Wirings.{AreApart}
use Rattle.bn_circuits.proofs.WiringsLemmas.{apart-append, apart-IsOneToOne}
use Rattle.bn_circuits.proofs.WireListLemmas.{line_tells}
use Rattle.bn_circuits.specs.declared.line.Line.{Line}
use Rattle.bn_circuits.specs.declared.line.Wire.{Wire}
use Rattle.bn_network_text.specs.Entries.{Port, ModuleLine}
use Rattle.bn_network_text.specs.Faults.{start_in, end_in, entry_in, has_port, line_of, is_at, wires_from}
use Rattle.bn_network_text.specs.Faults.{wires_by, wires_before, or_else, wire_fault, outputs_fault}
use Rattle.bn_network_text.specs.Faults.{head_fault, entry_fault, module_fault}
use Rattle.bn_network_text.specs.declared.fault.NetworkFault.{NetworkFault}
use Rattle.bn_network_text.specs.declared.sentence.Sentence.{Sentence}
use Rattle.bn_network_text.specs.declared.shape.Shape.{Shape}

-- ---- what follows from a test

or_none : (a b : Option NetworkFault) → or_else a b ≡ None → (a ≡ None) × (b ≡ None)
or_none None b h = (refl, h)
or_none (Some f) b h = absurd (cc)

pub if_none : {X : Type 0} (b : Bool) (x y : Option X) → (if b then x else y) ≡ None
    → ((b ≡ true) × (x ≡ None)) ⊎ ((b ≡ false) × (y ≡ None))
if_none true x y h = inl (refl, h)
if_none false x y h = inr (refl, h)

pub fault_some : (f : NetworkFault) → ◌≡◌ {A = Option NetworkFault} (Some f) None → ⊥
fault_some f h = cc

none_of : {X : Type 0} (o : Option X) → is_some o ≡ false → o ≡ None
none_of None h = refl
none_of (Some x) h = absurd (true_is_not_false h)
  where
    true_is_not_false : true ≡ false → ⊥
    true_is_not_false h = cc

pub some_and_none : {X : Type 0} (o : Option X) (x : X) → o ≡ Some x → o ≡ None → ⊥
some_and_none o x some none = cc

-- a target comes from a wire of the list
pub listed : (ws : List Wire) (from to : Line) → target ws from ≡ Some to
    → (n : ℕ) × (slice_get ws n ≡ Some (record { from = from; to = to }))
listed [] from to h = absurd (cc)
listed (w ∷ ws) from to h =
    elim (line_tells w.from from) [
      | inl here ↦ (let found = rw here.0 at h in
          let end : w.to ≡ to = cc in
          (0, ap Some (same_wire w from to here.1 end)))
      | inr there ↦ (let rest = listed ws from to (rw there.0 at h) in (suc rest.0, rest.1))
    ]
  where
    same_wire : (w : Wire) (from to : Line) → w.from ≡ from → w.to ≡ to → w ≡ record { from = from; to = to }
    same_wire w from to leaves ends = λ i. record { from = leaves i; to = ends i }

-- a list with one more at its end
at_end : {X : Type 0} (xs : List X) (x : X) (n : ℕ) (y : X) → slice_get (xs ++ x ∷ []) n ≡ Some y
    → (slice_get xs n ≡ Some y) ⊎ (x ≡ y)
at_end [] x zero y h = inr (let same : x ≡ y = cc in same)
at_end [] x (suc n) y h = absurd (cc)
at_end (z ∷ xs) x zero y h = inl h
at_end (z ∷ xs) x (suc n) y h = at_end xs x n y h

module _ (shapes : List Shape) (says : List (Option Sentence)) where
  -- the wire leaves an output port that the line of its module names, before port o of module m, and leads to a port
  -- that is there, and is not the start
  pub record IsFine (m o : ℕ) (w : Wire) : Type 0 where
    pub before : (w.from.element < m) ⊎ ((w.from.element ≡ m) × (w.from.line < o))
    pub entry : ModuleLine
    pub has_entry : entry_in says w.from.element ≡ Some entry
    pub out : w.from.line < length entry.targets
    pub port : Port
    pub there : has_port shapes says port ≡ true
    pub ends : w.to ≡ line_of port
    pub not_end : is_at (end_in says) w.from ≡ false
    pub not_start : is_at (start_in says) w.to ≡ false

  pub record AreFine (m o : ℕ) (ws : List Wire) : Type 0 where
    pub apart : AreApart ws
    pub fine : (n : ℕ) (w : Wire) → slice_get ws n ≡ Some w → IsFine m o w

  pub record IsJoint (ws : List Wire) (from : Line) (p : Port) : Type 0 where
    pub there : has_port shapes says p ≡ true
    pub not_end : is_at (end_in says) from ≡ false
    pub not_start : is_at (start_in says) (line_of p) ≡ false
    pub new : source ws (line_of p) ≡ None

  joint : (ws : List Wire) (from : Line) (p : Port) → wire_fault shapes says ws from p ≡ None → IsJoint ws from p
  joint ws from p none =
      elim (if_none (has_port shapes says p) _ _ none) [
        | inr bad ↦ absurd (fault_some _ bad.1)
        | inl a ↦ elim (if_none (is_at (end_in says) from) _ _ a.1) [
          | inl bad ↦ absurd (fault_some _ bad.1)
          | inr b ↦ elim (if_none (is_at (start_in says) (line_of p)) _ _ b.1) [
            | inl bad ↦ absurd (fault_some _ bad.1)
            | inr c ↦ elim (if_none (is_some (source ws (line_of p))) _ _ c.1) [
              | inl bad ↦ absurd (fault_some _ bad.1)
              | inr d ↦ record {
                there = a.0;
                not_end = b.0;
                not_start = c.0;
                new = none_of (source ws (line_of p)) d.0;
              }
            ]
          ]
        ]
      ]

  later : (m o n k : ℕ) (w : Wire) → (m < n) ⊎ ((m ≡ n) × (o ≤ k)) → IsFine m o w → IsFine n k w
  later m o n k w order h = record {
    before = by_before order h.before;
    entry = h.entry;
    has_entry = h.has_entry;
    out = h.out;
    port = h.port;
    there = h.there;
    ends = h.ends;
    not_end = h.not_end;
    not_start = h.not_start;
  }
    where
      by_before : (m < n) ⊎ ((m ≡ n) × (o ≤ k)) → (w.from.element < m) ⊎ ((w.from.element ≡ m) × (w.from.line < o))
          → (w.from.element < n) ⊎ ((w.from.element ≡ n) × (w.from.line < k))
      by_before (inl less) (inl low) = inl (omega arith)
      by_before (inl less) (inr same) = let e = same.0 in inl (omega arith)
      by_before (inr more) (inl low) = let e = more.0 in inl (omega arith)
      by_before (inr more) (inr same) = inr (same.0 ∙ more.0, let a = same.1 in let b = more.1 in omega arith)

  all_later : (m o n k : ℕ) (ws : List Wire) → (m < n) ⊎ ((m ≡ n) × (o ≤ k)) → AreFine m o ws → AreFine n k ws
  all_later m o n k ws order h = record {
    apart = h.apart;
    fine = λ i w at. later m o n k w order (h.fine i w at);
  }

  -- one wire more
  fresh : (m o : ℕ) (ws : List Wire) (p : Port) → source ws (line_of p) ≡ None → AreFine m o ws → (from to : Line)
      → target ws from ≡ Some to
      → (target (record { from = line_at m o; to = line_of p } ∷ []) from ≡ None)
      × (source (record { from = line_at m o; to = line_of p } ∷ []) to ≡ None)
  fresh m o ws p new h from to leads =
      let at = listed ws from to leads in
      let fine = h.fine at.0 (record { from = from; to = to }) at.1 in
      (no_start (line_tells (line_at m o) from) fine.before, no_end (line_tells (line_of p) to))
    where
      no_start : ((same_line (line_at m o) from ≡ true) × (line_at m o ≡ from))
          ⊎ ((same_line (line_at m o) from ≡ false) × (line_at m o ≢ from))
          → (from.element < m) ⊎ ((from.element ≡ m) × (from.line < o))
          → target (record { from = line_at m o; to = line_of p } ∷ []) from ≡ None
      no_start (inl same) (inl low) = (let e = ap (λ (l : Line). l.element) same.1 in absurd (omega arith))
      no_start (inl same) (inr low) = (let l = ap (λ (l : Line). l.line) same.1 in let less = low.1 in absurd
          (omega arith))
      no_start (inr apart) before = rw apart.0 refl

      no_end : ((same_line (line_of p) to ≡ true) × (line_of p ≡ to))
          ⊎ ((same_line (line_of p) to ≡ false) × (line_of p ≢ to))
          → source (record { from = line_at m o; to = line_of p } ∷ []) to ≡ None
      no_end (inl same) = (let back = (apart-IsOneToOne ws h.apart from to).0 leads in
          let none = subst (λ l. source ws l ≡ None) same.1 new in absurd (some_and_none _ from back none))
      no_end (inr apart) = rw apart.0 refl

  with_wire : (m o : ℕ) (ws : List Wire) (e : ModuleLine) (p : Port) → entry_in says m ≡ Some e → o < length e.targets
      → IsJoint ws (line_at m o) p → AreFine m o ws
      → AreFine m (suc o) (ws ++ record { from = line_at m o; to = line_of p } ∷ [])
  with_wire m o ws e p has low j h = record {
    apart = apart-append ws (record { from = line_at m o; to = line_of p } ∷ []) h.apart (refl, refl, tt)
        (fresh m o ws p j.new h);
    fine = λ i v at. elim (at_end ws (record { from = line_at m o; to = line_of p }) i v at) [
      | inl old ↦ later m o m (suc o) v (inr (refl, omega arith)) (h.fine i v old)
      | inr same ↦ subst (IsFine m (suc o)) same here
    ];
  }
    where
      here : IsFine m (suc o) (record { from = line_at m o; to = line_of p })
      here = record {
        before = inr (refl, omega arith);
        entry = e;
        has_entry = has;
        out = low;
        port = p;
        there = j.there;
        ends = refl;
        not_end = j.not_end;
        not_start = j.not_start;
      }

  -- the wires of a module
  with_wires : (m o : ℕ) (ws : List Wire) (e : ModuleLine) (xs : List (Option Port)) → entry_in says m ≡ Some e
      → o + length xs ≡ length e.targets → outputs_fault shapes says ws m o xs ≡ None → AreFine m o ws
      → AreFine m (o + length xs) (ws ++ wires_from m o xs)
  with_wires m o ws e [] has count none h =
      all_later m o m (o + 0) (ws ++ []) (inr (refl, omega arith)) (subst (AreFine m o) (sym (append-nil ws)) h)
  with_wires m o ws e (None ∷ xs) has count none h =
      let sum : suc o + length xs ≡ o + suc (length xs) = omega arith in
      subst (λ n. AreFine m n (ws ++ wires_from m (suc o) xs)) sum
      (with_wires m (suc o) ws e xs has (sum ∙ count) none (all_later m o m (suc o) ws (inr (refl, omega arith)) h))
  with_wires m o ws e (Some p ∷ xs) has count none h =
      let both = or_none (wire_fault shapes says ws (line_at m o) p) _ none in
      let sum : suc o + length xs ≡ o + suc (length xs) = omega arith in
      let w : Wire = record { from = line_at m o; to = line_of p } in
      let one = with_wire m o ws e p has (omega arith) (joint ws (line_at m o) p both.0) h in
      let rest = with_wires m (suc o) (ws ++ w ∷ []) e xs has (sum ∙ count) both.1 one in
      let list : (ws ++ w ∷ []) ++ wires_from m (suc o) xs ≡ ws ++ (w ∷ wires_from m (suc o) xs) =
      append_assoc ws (w ∷ []) (wires_from m (suc o) xs) in
      subst (AreFine m (o + suc (length xs))) list
      (subst (λ n. AreFine m n ((ws ++ w ∷ []) ++ wires_from m (suc o) xs)) sum rest)

  -- a line of a module without a fault
  pub record IsEntry (m : ℕ) : Type 0 where
    pub entry : ModuleLine
    pub has : entry_in says m ≡ Some entry
    pub head : head_fault shapes m entry ≡ None
    pub outputs : outputs_fault shapes says (wires_before says m) m 0 entry.targets ≡ None

  pub entry-of : (m : ℕ) → module_fault shapes says m ≡ None → IsEntry m
  entry-of m none = by_entry (entry_in says m) refl none
    where
      by_entry : (o : Option ModuleLine) → entry_in says m ≡ o → entry_fault shapes says m o ≡ None → IsEntry m
      by_entry None is h = absurd (fault_some _ h)
      by_entry (Some e) is h = let both = or_none (head_fault shapes m e) _ h in
          record { entry = e; has = is; head = both.0; outputs = both.1 }

  -- all wires
  pub wires-fine : (n : ℕ) → ((m : ℕ) → m < n → module_fault shapes says m ≡ None) → AreFine n 0 (wires_before says n)
  wires-fine zero none = record { apart = tt; fine = λ i w at. absurd (cc) }
  wires-fine (suc n) none =
      let before = wires-fine n (λ m low. none m (omega arith)) in
      let e = entry-of n (none n (omega arith)) in
      let more = with_wires n 0 (wires_before says n) e.entry e.entry.targets e.has (omega arith) e.outputs before in
      let list : wires_before says n ++ wires_by n (entry_in says n)
      ≡ wires_before says n ++ wires_from n 0 e.entry.targets =
      ap (λ o. wires_before says n ++ wires_by n o) e.has in
      subst (AreFine (suc n) 0) (sym list)
      (all_later n (0 + length e.entry.targets) (suc n) 0 (wires_before says n ++ wires_from n 0 e.entry.targets)
      (inl (omega arith)) more)
