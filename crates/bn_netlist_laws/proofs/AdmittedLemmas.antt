-- The lines of a configuration that may be spelled have no fault, and none of its columns is spelled out.
use Rattle.std.specs.Prelude.{◌≡◌, ◌≢◌, ℕ, ◌+◌, ◌-◌, ◌<◌, ◌≤◌, ◌==◌, nat_lt, nat_le, Bool, true, false, List, [], ◌∷◌}
use Rattle.std.specs.Prelude.{◌++◌, length, Option, Some, None, is_some, slice_get, refl}
use Rattle.std.proofs.Common.{zero, suc, arith, sym, ap, subst, ◌∙◌, inl, inr, ◌⊎◌}
use Rattle.std.proofs.lemmas.Bool.Decides.{nat_tests}
use Rattle.std.proofs.lemmas.List.{length-append}
use Rattle.std.proofs.lemmas.Option.{same_Some, slice_get_within}
use Rattle.bn_circuits.specs.Circuits.{clock, same_line, target, source, IsPlace}
use Rattle.bn_circuits.specs.declared.line.Line.{Line}
use Rattle.bn_circuits.specs.declared.line.Wire.{Wire}
use Rattle.bn_circuits.specs.declared.place.Place.{Place}
use Rattle.bn_circuits.specs.declared.place.Place.TheVariants.{Enter, Left}
use Rattle.bn_element.specs.Rotary.{north, east, south, west}
use Rattle.bn_column.specs.Columns.{IsInner, down, up, under, over, top}
use Rattle.bn_circuits.specs.Circuits.{line_at}
use Rattle.bn_netlist_laws.specs.Sentences.{AreNameable}
use Rattle.bn_netlist_laws.specs.Spelling.{Spelling, circuit_of, targets_of}
use Rattle.bn_netlist_laws.specs.Faults.{is_left_by, wires_from, element_at}
use Rattle.bn_netlist_laws.proofs.WireLemmas.{rotary_input, rotary_output, rotary_state, other_line, Each, each_append}
use Rattle.bn_netlist_laws.proofs.WireLemmas.{each_weaker, source-none}
use Rattle.bn_netlist_laws.specs.Columns.{IsColumnAt, inner_wires}
use Rattle.bn_netlist_laws.specs.Sentences.{Sentence, Title, Count, Start, End, Steps, At, Element, Column, Row}
use Rattle.bn_netlist_laws.specs.Sentences.{IsSayable}
use Rattle.bn_netlist_laws.specs.Spelling.{Admits, most_elements, header_of, header_then, IsWrittenAt, row_sentences}
use Rattle.bn_netlist_laws.specs.Spelling.{AreEntries, no_entry, element_entry, column_entry}
use Rattle.bn_netlist_laws.specs.Faults.{header_lines, next_number, row_number, wires_after, bars_in, rows_left}
use Rattle.bn_netlist_laws.specs.Faults.{row_targets, wire_fault, outputs_fault, some_wire, inner_fault, named_fault}
use Rattle.bn_netlist_laws.specs.Faults.{fault_of, IsOfVersion, IsNext, AreFaultlessAfter, AreFaultless, AreWhole}
use Rattle.bn_netlist_laws.specs.Faults.{IsSpelledOut}
use Rattle.bn_netlist_laws.specs.declared.version.Version.{Version}
use Rattle.bn_netlist_laws.specs.declared.version.Version.TheVariants.{One, Two}
use Rattle.bn_circuits.specs.declared.net.TheConstants.{MOST_ELEMENTS}
use Rattle.bn_netlist_laws.specs.declared.header.Header.{Header}
use Rattle.bn_netlist_laws.proofs.EntryLemmas.{count_states, column_within, column_alike}
use Rattle.bn_netlist_laws.proofs.LineLemmas.{AreOf, AreLeading, row_leading, from_are, wires_after-more}
use Rattle.bn_netlist_laws.proofs.LineLemmas.{rows_left-append, length_more}
use Rattle.bn_netlist_laws.proofs.SaidLemmas.{inner_each, inner_of, targets_leading, states-said, wires-said}

-- the five tests that a wire passes
pub wire_fault-none : (h : Header) (rows : List Sentence) (earlier : List Wire) (from to : Line) → to.element < h.count
    → same_line h.end from ≡ false → is_left_by h.place from ≡ false → same_line h.start to ≡ false
    → source earlier to ≡ None → wire_fault (header_then h rows) earlier from to ≡ None
wire_fault-none h rows earlier from to within not_end not_left not_start free =
    let inside : nat_lt to.element h.count ≡ true = grind (arith, nat_tests) in
    rw (inside, not_end, not_left, not_start, free) refl

pub none_is_not_some : (l : Line) (o : Option Line) → o ≡ None → o ≡ Some l → ⊥
none_is_not_some l o h k = let e : ◌≡◌ {A = Option Line} None (Some l) = sym h ∙ k in apart e
  where
    apart : ◌≡◌ {A = Option Line} None (Some l) → ⊥
    apart e = cc

-- a wire leaves none of these outputs of an element, as far as they lead anywhere
abbrev pub IsClearOf : ℕ → ℕ → List (Option Line) → Wire → Type 0
IsClearOf e o [] w = Unit {0}
IsClearOf e o (None ∷ xs) w = IsClearOf e (suc o) xs w
IsClearOf e o (Some to ∷ xs) w = (w.from ≢ line_at e o) × IsClearOf e (suc o) xs w

clear_lead : (e o : ℕ) (x : Option Line) (xs : List (Option Line)) (w : Wire) → w.from ≢ line_at e o
    → IsClearOf e (suc o) xs w → IsClearOf e o (x ∷ xs) w
clear_lead e o None xs w here rest = rest
clear_lead e o (Some to) xs w here rest = (here, rest)

pub later_clear : (e o p : ℕ) (xs : List (Option Line)) (w : Wire) → w.from ≡ line_at e o → o < p → IsClearOf e p xs w
later_clear e o p [] w is below = tt
later_clear e o p (x ∷ xs) w is below =
    clear_lead e p x xs w (λ same. (let lines : o ≡ p = ap (λ (l : Line). l.line) (sym is ∙ same) in omega arith))
    (later_clear e o (suc p) xs w is (omega arith))

pub element_clear : (e p : ℕ) (xs : List (Option Line)) (w : Wire) → w.from.element ≢ e → IsClearOf e p xs w
element_clear e p [] w apart = tt
element_clear e p (x ∷ xs) w apart = clear_lead e p x xs w (λ same. apart (ap (λ (l : Line). l.element) same))
    (element_clear e (suc p) xs w apart)

pub wires_of_element : (n o : ℕ) (xs : List (Option Line)) → Each (λ w. w.from.element ≡ n) (wires_from n o xs)
wires_of_element n o [] = tt
wires_of_element n o (None ∷ xs) = wires_of_element n (suc o) xs
wires_of_element n o (Some to ∷ xs) = (refl, wires_of_element n (suc o) xs)

some_false : (test : Wire → Bool) (ws : List Wire) → Each (λ w. test w ≡ false) ws → some_wire test ws ≡ false
some_false test [] none = refl
some_false test (w ∷ ws) none = let here = none.0 in let rest = some_false test ws none.1 in rw (here, rest) refl

pub most_small : (v : Version) → most_elements v ≤ MOST_ELEMENTS
most_small One = omega arith
most_small Two = omega arith

pub element_version : (v : Version) (n q : ℕ) (xs : List (Option Line)) → IsOfVersion v (Element n q xs)
element_version One n q xs = tt
element_version Two n q xs = tt

row_version : (v : Version) (x y : Option Line) → IsOfVersion v (Row x y)
row_version One x y = tt
row_version Two x y = tt

-- a wire before this row's, when a column is being said
abbrev pub IsPast : ℕ → ℕ → ℕ → Wire → Type 0
IsPast b k f w = (w.from.element < f) ⊎ IsInner b k w.from w.to

pub further : (b k f : ℕ) (w : Wire) → IsPast b k f w → IsPast b k (suc f) w
further b k f w (inl earlier) = inl (omega (arith, earlier))
further b k f w (inr inner) = inr inner

inner_not_row : (b k r f l : ℕ) (from to : Line) → f ≡ b + r → IsInner b k from to → r < k → (l ≡ east) ⊎ (l ≡ west)
    → from ≢ line_at f l
inner_not_row b k r f l from to at_f (down i low leaves ends) below side same =
    let lines : south ≡ l = ap (λ (x : Line). x.line) (sym leaves ∙ same) in
    elim side [ inl is ↦ omega arith | inr is ↦ omega arith ]
inner_not_row b k r f l from to at_f (up i low leaves ends) below side same =
    let lines : north ≡ l = ap (λ (x : Line). x.line) (sym leaves ∙ same) in
    elim side [ inl is ↦ omega arith | inr is ↦ omega arith ]
inner_not_row b k r f l from to at_f (under leaves ends) below side same =
    let lines : south ≡ l = ap (λ (x : Line). x.line) (sym leaves ∙ same) in
    elim side [ inl is ↦ omega arith | inr is ↦ omega arith ]
inner_not_row b k r f l from to at_f (over leaves ends) below side same =
    let elements : b + k ≡ f = ap (λ (x : Line). x.element) (sym leaves ∙ same) in omega arith
inner_not_row b k r f l from to at_f (top leaves ends) below side same =
    let lines : north ≡ l = ap (λ (x : Line). x.line) (sym leaves ∙ same) in
    elim side [ inl is ↦ omega arith | inr is ↦ omega arith ]

pub inner_low : (b k : ℕ) (from to : Line) → IsInner b k from to → b ≤ from.element
inner_low b k from to (down i low leaves ends) = let is : from.element ≡ b + i =
    ap (λ (x : Line). x.element) leaves in omega arith
inner_low b k from to (up i low leaves ends) = let is : from.element ≡ b + (i + 1) =
    ap (λ (x : Line). x.element) leaves in omega arith
inner_low b k from to (under leaves ends) = let is : from.element ≡ b + k =
    ap (λ (x : Line). x.element) leaves in omega arith
inner_low b k from to (over leaves ends) = let is : from.element ≡ b + k =
    ap (λ (x : Line). x.element) leaves in omega arith
inner_low b k from to (top leaves ends) = let is : from.element ≡ b = ap (λ (x : Line). x.element) leaves in omega arith

pub inner_high : (b k : ℕ) (from to : Line) → IsInner b k from to → from.element ≤ b + k
inner_high b k from to (down i low leaves ends) = let is : from.element ≡ b + i =
    ap (λ (x : Line). x.element) leaves in omega arith
inner_high b k from to (up i low leaves ends) = let is : from.element ≡ b + (i + 1) =
    ap (λ (x : Line). x.element) leaves in omega arith
inner_high b k from to (under leaves ends) = let is : from.element ≡ b + k =
    ap (λ (x : Line). x.element) leaves in omega arith
inner_high b k from to (over leaves ends) = let is : from.element ≡ b + k =
    ap (λ (x : Line). x.element) leaves in omega arith
inner_high b k from to (top leaves ends) = let is : from.element ≡ b =
    ap (λ (x : Line). x.element) leaves in omega arith

pub past_clear : (b k r f : ℕ) (x y : Option Line) (w : Wire) → f ≡ b + r → r < k → IsPast b k f w
    → IsClearOf f east (row_targets x y) w
past_clear b k r f x y w at_f below (inl earlier) = element_clear f east (row_targets x y) w
    (λ same. omega (arith, earlier, same))
past_clear b k r f x y w at_f below (inr inner) =
    clear_lead f east x (None ∷ y ∷ []) w (inner_not_row b k r f east w.from w.to at_f inner below (inl refl))
    (clear_lead f west y [] w (inner_not_row b k r f west w.from w.to at_f inner below (inr refl)) tt)

module _ (v : Version) (s : Spelling) (a : Admits v s) where
  abbrev head : Header
  head = header_of v s

  -- no earlier wire ends where a wire of the circuit does that none of them is
  free_each : (earlier : List Wire) (from to : Line) → target s.wires from ≡ Some to → AreOf s.wires earlier
      → Each (λ w. w.from ≢ from) earlier → Each (λ w. w.to ≢ to) earlier
  free_each [] from to leads are clear = tt
  free_each (w ∷ ws) from to leads are clear =
      let back : source s.wires to ≡ Some from = (a.circuit.one_to_one from to).0 leads in (
        λ same. (let again : source s.wires to ≡ Some w.from = (a.circuit.one_to_one w.from to).0
            (are.0 ∙ ap (λ (l : Line). Some l) same) in clear.0 (same_Some w.from from (sym again ∙ back))),
        free_each ws from to leads are.1 clear.1,
      )

  source_free : (earlier : List Wire) (from to : Line) → target s.wires from ≡ Some to → AreOf s.wires earlier
      → Each (λ w. w.from ≢ from) earlier → source earlier to ≡ None
  source_free earlier from to leads are clear = source-none earlier to (free_each earlier from to leads are clear)

  not_end : (from to : Line) → target s.wires from ≡ Some to → same_line s.end from ≡ false
  not_end from to leads = other_line s.end from (λ same. none_is_not_some to (target s.wires from)
      (subst (λ (l : Line). target s.wires l ≡ None) same a.unwired) leads)

  not_start : (from to : Line) → target s.wires from ≡ Some to → same_line s.start to ≡ false
  not_start from to leads =
      let back : source s.wires to ≡ Some from = (a.circuit.one_to_one from to).0 leads in
      other_line s.start to (λ same. none_is_not_some from (source s.wires to)
      (subst (λ (l : Line). source s.wires l ≡ None) same a.unfed) back)

  not_left : (p : Place) (from to : Line) → IsPlace (circuit_of s) p → target s.wires from ≡ Some to
      → is_left_by p from ≡ false
  not_left (Enter e i) from to place h = refl
  not_left (Left e o) from to place h =
      other_line (record { element = e; line = o }) from (λ same.
      let none : target s.wires from ≡ None = subst (λ (l : Line). target s.wires l ≡ None) same place.1 in
      none_is_not_some to (target s.wires from) none h)

  wire_ok : (done : List Sentence) (earlier : List Wire) (from to : Line) → target s.wires from ≡ Some to
      → AreOf s.wires earlier → Each (λ w. w.from ≢ from) earlier
      → wire_fault (header_then head done) earlier from to ≡ None
  wire_ok done earlier from to leads are clear =
      let within = rotary_input s.elements to.element to.line (a.circuit.wired from to leads).1 in
      wire_fault-none head done earlier from to within.0 (not_end from to leads)
      (not_left s.config.place from to a.config.place leads) (not_start from to leads)
      (source_free earlier from to leads are clear)

  outputs_ok : (done : List Sentence) (earlier : List Wire) (e o : ℕ) (xs : List (Option Line)) → AreOf s.wires earlier
      → AreLeading s.wires e o xs → Each (IsClearOf e o xs) earlier
      → outputs_fault (header_then head done) earlier e o xs ≡ None
  outputs_ok done earlier e o [] are leading clear = refl
  outputs_ok done earlier e o (None ∷ xs) are leading clear = outputs_ok done earlier e (suc o) xs are leading clear
  outputs_ok done earlier e o (Some to ∷ xs) are leading clear =
      let w : Wire = record { from = line_at e o; to = to } in
      let here = wire_ok done earlier (line_at e o) to leading.0 are
      (each_weaker (IsClearOf e o (Some to ∷ xs)) (λ u. u.from ≢ line_at e o) (λ u c. c.0) earlier clear) in
      let rest = outputs_ok done (earlier ++ w ∷ []) e (suc o) xs
      (each_append (λ u. target s.wires u.from ≡ Some u.to) earlier (w ∷ []) are (leading.0, tt))
      leading.1
      (each_append (IsClearOf e (suc o) xs) earlier (w ∷ []) (each_weaker (IsClearOf e o (Some to ∷ xs))
      (IsClearOf e (suc o) xs) (λ u c. c.1) earlier clear) (later_clear e o (suc o) xs w refl (omega arith), tt))
      in
      rw (here, rest) refl

  nameable_leading : (e o : ℕ) (xs : List (Option Line)) → AreLeading s.wires e o xs → AreNameable xs
  nameable_leading e o [] are = tt
  nameable_leading e o (None ∷ xs) are = nameable_leading e (suc o) xs are
  nameable_leading e o (Some to ∷ xs) are =
      let within = rotary_input s.elements to.element to.line (a.circuit.wired (line_at e o) to are.0).1 in
      let below : to.element < s.elements = within.0 in
      let few : s.elements ≤ most_elements v = a.few in
      let small = most_small v in
      ((omega arith, within.1), nameable_leading e (suc o) xs are.1)

  inner_ok : (done : List Sentence) (b k : ℕ) → IsColumnAt (circuit_of s) s.config.states b k
      → AreOf s.wires (wires_after 6 done) → Each (λ w. w.from.element < b) (wires_after 6 done)
      → inner_fault (header_then head done) (wires_after 6 done) (b + k) (inner_wires b k) ≡ None
  inner_ok done b k is are before =
      let within : b + k < s.elements = column_within s b k is in
      let inside : nat_lt (b + k) s.elements ≡ true = grind (arith, nat_tests) in
      let inner = inner_of s b k is in
      let end = some_false (λ w. same_line s.end w.from) (inner_wires b k)
      (each_weaker (λ w. target s.wires w.from ≡ Some w.to) (λ w. same_line s.end w.from ≡ false)
      (λ w leads. not_end w.from w.to leads) (inner_wires b k) inner) in
      let left = some_false (λ w. is_left_by s.config.place w.from) (inner_wires b k)
      (each_weaker (λ w. target s.wires w.from ≡ Some w.to) (λ w. is_left_by s.config.place w.from ≡ false)
      (λ w leads. not_left s.config.place w.from w.to a.config.place leads) (inner_wires b k) inner) in
      let start = some_false (λ w. same_line s.start w.to) (inner_wires b k)
      (each_weaker (λ w. target s.wires w.from ≡ Some w.to) (λ w. same_line s.start w.to ≡ false)
      (λ w leads. not_start w.from w.to leads) (inner_wires b k) inner) in
      let free = some_false (λ w. is_some (source (wires_after 6 done) w.to)) (inner_wires b k)
      (each_weaker (λ w. IsInner b k w.from w.to) (λ w. is_some (source (wires_after 6 done) w.to) ≡ false) fed
      (inner_wires b k) (inner_each b k is.some)) in
      rw (inside, end, left, start, free) refl
    where
      fed : (w : Wire) → IsInner b k w.from w.to → is_some (source (wires_after 6 done) w.to) ≡ false
      fed w inner =
          let low = inner_low b k w.from w.to inner in
          let none = source_free (wires_after 6 done) w.from w.to (is.column.wired w.from w.to inner) are
          (each_weaker (λ u. u.from.element < b) (λ u. u.from ≢ w.from)
          (λ u earlier same. (let elements : u.from.element ≡ w.from.element = ap (λ (l : Line). l.element) same in
          omega (arith, earlier))) (wires_after 6 done) before) in
          rw none refl

  -- the lines of the rows of a column, and what comes behind them
  rows_ok : (b k m r f : ℕ) (done rest : List Sentence) → f ≡ b + r → b + k < s.elements → r + m ≡ k
      → length done ≡ suc f → rows_left 0 done ≡ m → AreOf s.wires (wires_after 6 done)
      → Each (IsPast b k f) (wires_after 6 done)
      → ((more : List Sentence) → length more ≡ suc (b + k) → rows_left 0 more ≡ 0 → AreOf s.wires (wires_after 6 more)
      → Each (λ w. w.from.element < suc (b + k)) (wires_after 6 more)
      → AreFaultlessAfter (header_then head more) rest)
      → AreFaultlessAfter (header_then head done) (row_sentences s.wires f m ++ rest)
  rows_ok b k zero r f done rest at_f within all made left are past behind =
      behind done (omega arith) left are (each_weaker (IsPast b k f) (λ w. w.from.element < suc (b + k)) below
      (wires_after 6 done) past)
    where
      below : (w : Wire) → IsPast b k f w → w.from.element < suc (b + k)
      below w (inl earlier) = omega (arith, earlier)
      below w (inr inner) = let high = inner_high b k w.from w.to inner in omega arith
  rows_ok b k (suc m) r f done rest at_f within all made left are past behind =
      let x = target s.wires (line_at f east) in
      let y = target s.wires (line_at f west) in
      let ts = row_targets x y in
      let leading : AreLeading s.wires f east ts = row_leading s.wires f in
      let named : AreNameable ts = nameable_leading f east ts leading in
      let next : IsNext (header_then head done) (Row x y) =
      record { sayable = sides_nameable x y named; kind = omega arith; version = row_version v x y; room = omega arith }
      in
      let clear : Each (IsClearOf f east ts) (wires_after 6 done) =
      each_weaker (IsPast b k f) (IsClearOf f east ts) (λ w is. past_clear b k r f x y w at_f (omega arith) is)
      (wires_after 6 done) past in
      let outputs = outputs_ok done (wires_after 6 done) f east ts are leading clear in
      let number : f ≡ row_number (length (header_then head done)) = omega arith in
      let none : fault_of (header_then head done) (Row x y) ≡ None =
      subst (λ (n : ℕ). outputs_fault (header_then head done) (wires_after 6 done) n east ts ≡ None) number outputs
      in
      let place : f ≡ row_number (6 + length done) = omega arith in
      let wires : wires_after 6 (done ++ Row x y ∷ []) ≡ wires_after 6 done ++ wires_from f east ts =
      wires_after-more 6 done (Row x y) ∙ ap (λ (n : ℕ). wires_after 6 done ++ wires_from n east ts) (sym place) in
      let are_more : AreOf s.wires (wires_after 6 (done ++ Row x y ∷ [])) =
      subst (AreOf s.wires) (sym wires) (each_append (λ w. target s.wires w.from ≡ Some w.to) (wires_after 6 done)
      (wires_from f east ts) are (from_are s.wires f east ts leading)) in
      let past_more : Each (IsPast b k (suc f)) (wires_after 6 (done ++ Row x y ∷ [])) =
      subst (Each (IsPast b k (suc f))) (sym wires)
      (each_append (IsPast b k (suc f)) (wires_after 6 done) (wires_from f east ts)
      (each_weaker (IsPast b k f) (IsPast b k (suc f)) (further b k f) (wires_after 6 done) past)
      (each_weaker (λ w. w.from.element ≡ f) (IsPast b k (suc f)) (λ w is. inl (omega (arith, is)))
      (wires_from f east ts) (wires_of_element f east ts)))
      in
      let left_more : rows_left 0 (done ++ Row x y ∷ []) ≡ m = rows_left-append 0 done (Row x y ∷ []) ∙ omega arith in
      let made_more = length_more done (Row x y) in
      let more : AreFaultlessAfter (header_then head (done ++ Row x y ∷ [])) (row_sentences s.wires (suc f) m ++ rest) =
      rows_ok b k m (suc r) (suc f) (done ++ Row x y ∷ []) rest (omega arith) within (omega arith) (omega arith)
      left_more are_more past_more behind in
      (next, none, more)
    where
      sides_nameable : (x y : Option Line) → AreNameable (row_targets x y) → AreNameable (x ∷ y ∷ [])
      sides_nameable None y h = h
      sides_nameable (Some l) y h = h

  entries_ok : (done : List Sentence) (e : ℕ) (xs : List Sentence) → AreEntries v s e xs → length done ≡ e
      → rows_left 0 done ≡ 0 → AreOf s.wires (wires_after 6 done) → Each (λ w. w.from.element < e) (wires_after 6 done)
      → AreFaultlessAfter (header_then head done) xs
  entries_ok done e xs (no_entry all is) made left are before =
      subst (AreFaultlessAfter (header_then head done)) (sym is) tt
  entries_ok done e xs (element_entry q rest has none is more) made left are before =
      let ts = targets_of s.wires e in
      let x : Sentence = Element e q ts in
      let leading : AreLeading s.wires e 0 ts = targets_leading s.wires e in
      let state = rotary_state s.elements e q (a.config.range e q has) in
      let below = inside e q has in
      let few : s.elements ≤ most_elements v = a.few in
      let small = most_small v in
      let next : IsNext (header_then head done) x =
      record {
        sayable = (omega arith, state, refl, nameable_leading e 0 ts leading);
        kind = omega arith;
        version = element_version v e q ts;
        room = omega arith;
      }
      in
      let clear : Each (IsClearOf e 0 ts) (wires_after 6 done) =
      each_weaker (λ w. w.from.element < e) (IsClearOf e 0 ts)
      (λ w is. element_clear e 0 ts w (λ same. omega (arith, is, same))) (wires_after 6 done) before in
      let outputs = outputs_ok done (wires_after 6 done) e 0 ts are leading clear in
      let number : (e == next_number (length (header_then head done))) ≡ true = grind (arith, nat_tests) in
      let wires : wires_after 6 (done ++ x ∷ []) ≡ wires_after 6 done ++ wires_from e 0 ts =
      wires_after-more 6 done x in
      let are_more = subst (AreOf s.wires) (sym wires) (each_append (λ w. target s.wires w.from ≡ Some w.to)
      (wires_after 6 done) (wires_from e 0 ts) are (from_are s.wires e 0 ts leading)) in
      let before_more : Each (λ w. w.from.element < suc e) (wires_after 6 (done ++ x ∷ [])) =
      subst (Each (λ w. w.from.element < suc e)) (sym wires)
      (each_append (λ w. w.from.element < suc e) (wires_after 6 done) (wires_from e 0 ts)
      (each_weaker (λ w. w.from.element < e) (λ w. w.from.element < suc e) (λ w is. omega (arith, is))
      (wires_after 6 done) before)
      (each_weaker (λ w. w.from.element ≡ e) (λ w. w.from.element < suc e) (λ w is. omega (arith, is))
      (wires_from e 0 ts) (wires_of_element e 0 ts)))
      in
      let left_more : rows_left 0 (done ++ x ∷ []) ≡ 0 = rows_left-append 0 done (x ∷ []) ∙ left in
      let made_more = length_more done x in
      subst (AreFaultlessAfter (header_then head done)) (sym is) (
        next,
        rw number outputs,
        entries_ok (done ++ x ∷ []) (suc e) rest more (omega arith) left_more are_more before_more,
      )
    where
      inside : (e q : ℕ) → slice_get s.config.states e ≡ Some q → e < s.elements
      inside e q has = let below = slice_get_within s.config.states e q has in let count =
          count_states v s a in omega arith
  entries_ok done e xs (column_entry k q rest written has is more) made left are before =
      let x : Sentence = Column e k q in
      let state = rotary_state s.elements (e + k) q (a.config.range (e + k) q has) in
      let within : e + k < s.elements = column_within s e k written.column in
      let few : s.elements ≤ most_elements v = a.few in
      let small = most_small v in
      let next : IsNext (header_then head done) x =
      record {
        sayable = (omega arith, written.column.some, omega arith, state);
        kind = omega arith;
        version = subst (λ (u : Version). IsOfVersion u x) (sym written.second) tt;
        room = omega arith;
      }
      in
      let number : (e == next_number (length (header_then head done))) ≡ true = grind (arith, nat_tests) in
      let inner = inner_ok done e k written.column are before in
      let wires : wires_after 6 (done ++ x ∷ []) ≡ wires_after 6 done ++ inner_wires e k = wires_after-more 6 done x in
      let are_more = subst (AreOf s.wires) (sym wires) (each_append (λ w. target s.wires w.from ≡ Some w.to)
      (wires_after 6 done) (inner_wires e k) are (inner_of s e k written.column)) in
      let past : Each (IsPast e k e) (wires_after 6 (done ++ x ∷ [])) = subst (Each (IsPast e k e)) (sym wires)
      (each_append (IsPast e k e) (wires_after 6 done) (inner_wires e k)
      (each_weaker (λ w. w.from.element < e) (IsPast e k e) (λ w is. inl is) (wires_after 6 done) before)
      (each_weaker (λ w. IsInner e k w.from w.to) (IsPast e k e) (λ w is. inr is) (inner_wires e k)
      (inner_each e k written.column.some)))
      in
      let left_more : rows_left 0 (done ++ x ∷ []) ≡ k = rows_left-append 0 done (x ∷ []) in
      let made_more = length_more done x in
      let rows = rows_ok e k k 0 e (done ++ x ∷ []) rest (omega arith) within (omega arith) (omega arith) left_more
      are_more past (λ all made_all left_all are_all before_all. entries_ok all (suc (e + k)) rest more made_all
      left_all are_all before_all) in
      subst (AreFaultlessAfter (header_then head done)) (sym is) (next, rw number inner, rows)

  entries_length : (e : ℕ) (xs : List Sentence) → AreEntries v s e xs → e + length xs ≡ s.elements
  entries_length e xs (no_entry all is) = let none : length xs ≡ 0 = ap length is in omega arith
  entries_length e xs (element_entry q rest has none is more) = let count : length xs ≡ suc (length rest) =
      ap length is in let rest_is = entries_length (suc e) rest more in omega arith
  entries_length e xs (column_entry k q rest written has is more) =
      let count : length xs ≡ suc (length (row_sentences s.wires e k ++ rest)) = ap length is in
      let rows = length-append (row_sentences s.wires e k) rest in
      let number = rows_length e k in
      let rest_is = entries_length (suc (e + k)) rest more in
      omega arith
    where
      rows_length : (e k : ℕ) → length (row_sentences s.wires e k) ≡ k
      rows_length e zero = refl
      rows_length e (suc k) = ap suc (rows_length (suc e) k)

  -- ---- the whole text

  place_there : (p : Place) → IsPlace (circuit_of s) p → IsSayable (At p)
      × (named_fault (Title v ∷ Count s.elements ∷ Start s.start ∷ End s.end ∷ Steps s.config.steps ∷ []) (element_at p)
      ≡ None)
  place_there (Enter e i) place =
      let there = rotary_input s.elements e i place in
      let below : e < s.elements = there.0 in
      let few : s.elements ≤ most_elements v = a.few in
      let small = most_small v in
      let test : nat_lt e s.elements ≡ true = grind (arith, nat_tests) in
      ((omega arith, there.1), rw test refl)
  place_there (Left e o) place =
      let there = rotary_output s.elements e o place.0 in
      let below : e < s.elements = there.0 in
      let few : s.elements ≤ most_elements v = a.few in
      let small = most_small v in
      let test : nat_lt e s.elements ≡ true = grind (arith, nat_tests) in
      ((omega arith, there.1), rw test refl)

  any_version_title : (u w : Version) → IsOfVersion u (Title w)
  any_version_title One w = tt
  any_version_title Two w = tt

  any_version_count : (c : ℕ) (u : Version) → IsOfVersion u (Count c)
  any_version_count c One = tt
  any_version_count c Two = tt

  any_version_start : (l : Line) (u : Version) → IsOfVersion u (Start l)
  any_version_start l One = tt
  any_version_start l Two = tt

  any_version_end : (l : Line) (u : Version) → IsOfVersion u (End l)
  any_version_end l One = tt
  any_version_end l Two = tt

  any_version_steps : (t : ℕ) (u : Version) → IsOfVersion u (Steps t)
  any_version_steps t One = tt
  any_version_steps t Two = tt

  any_version_at : (p : Place) (u : Version) → IsOfVersion u (At p)
  any_version_at p One = tt
  any_version_at p Two = tt

  pub admitted-faultless : (xs : List Sentence) → AreEntries v s 0 xs → AreFaultless (header_then head xs)
  admitted-faultless xs are =
      let few : s.elements ≤ most_elements v = a.few in
      let small = most_small v in
      let some : 0 < s.elements = a.some in
      let counted : nat_le s.elements (most_elements v) ≡ true = grind (arith, nat_tests) in
      let start = rotary_input s.elements s.start.element s.start.line a.start in
      let end = rotary_output s.elements s.end.element s.end.line a.end in
      let start_below : s.start.element < s.elements = start.0 in
      let end_below : s.end.element < s.elements = end.0 in
      let start_there : nat_lt s.start.element s.elements ≡ true = grind (arith, nat_tests) in
      let end_there : nat_lt s.end.element s.elements ≡ true = grind (arith, nat_tests) in
      let steps : s.config.steps ≤ clock = a.config.in_time in
      let place = place_there s.config.place a.config.place in
      let rows = entries_ok [] 0 xs are refl refl tt tt in (
        record { sayable = tt; kind = refl; version = any_version_title One v; room = omega arith },
        refl,
        (
          record {
            sayable = (some, omega arith);
            kind = refl;
            version = any_version_count s.elements v;
            room = omega arith;
          },
          rw counted refl,
          (
            record {
              sayable = (omega arith, start.1);
              kind = refl;
              version = any_version_start s.start v;
              room = omega arith;
            },
            rw start_there refl,
            (
              record {
                sayable = (omega arith, end.1);
                kind = refl;
                version = any_version_end s.end v;
                room = omega arith;
              },
              rw end_there refl,
              (
                record {
                  sayable = steps;
                  kind = refl;
                  version = any_version_steps s.config.steps v;
                  room = omega arith;
                },
                refl,
                (
                  record {
                    sayable = place.0;
                    kind = refl;
                    version = any_version_at s.config.place v;
                    room = omega arith;
                  },
                  place.1,
                  rows,
                ),
              ),
            ),
          ),
        ),
      )

  pub admitted-whole : (xs : List Sentence) → AreEntries v s 0 xs → AreWhole (header_then head xs)
  admitted-whole xs are =
      let count = entries_length 0 xs are in
      record { faultless = admitted-faultless xs are; complete = omega arith }

  -- ---- no column is spelled out

  number_of : Sentence → ℕ
  number_of (Element n q ts) = n
  number_of x = 0

  rows_no_element : (m e i n q : ℕ) (ts : List (Option Line)) (rest : List Sentence)
      → slice_get (row_sentences s.wires e m ++ rest) i ≡ Some (Element n q ts)
      → (j : ℕ) × (i ≡ m + j) × (slice_get rest j ≡ Some (Element n q ts))
  rows_no_element zero e i n q ts rest has = (i, omega arith, has)
  rows_no_element (suc m) e zero n q ts rest has = absurd (cc)
  rows_no_element (suc m) e (suc i) n q ts rest has =
      let found = rows_no_element m (suc e) i n q ts rest has in
      let place : i ≡ m + found.0 = found.1 in
      (found.0, omega arith, found.2)

  no_column_line : (k q n p : ℕ) (e : ℕ) (ts : List (Option Line))
      → ◌≡◌ {A = Option Sentence} (Some (Column e k q)) (Some (Element n p ts)) → ⊥
  no_column_line k q n p e ts h = cc

  entries_unwritten : (e : ℕ) (xs : List Sentence) → AreEntries v s e xs → (i n p : ℕ) (ts : List (Option Line))
      → slice_get xs i ≡ Some (Element n p ts) → (n ≡ e + i) × ((k : ℕ) → IsWrittenAt v s n k → ⊥)
  unfolding number_of
  entries_unwritten e xs (no_entry all is) i n p ts has = absurd
      (let none : slice_get [] i ≡ Some (Element n p ts) = subst
      (λ (ys : List Sentence). slice_get ys i ≡ Some (Element n p ts)) is has in cc)
  entries_unwritten e xs (element_entry q rest state none is more) i n p ts has =
      at_place (λ j. entries_unwritten (suc e) rest more j n p ts) i
      (subst (λ (ys : List Sentence). slice_get ys i ≡ Some (Element n p ts)) is has)
    where
      at_place : ((j : ℕ) → slice_get rest j ≡ Some (Element n p ts)
          → (n ≡ suc e + j) × ((k : ℕ) → IsWrittenAt v s n k → ⊥)) → (i : ℕ)
          → slice_get (Element e q (targets_of s.wires e) ∷ rest) i ≡ Some (Element n p ts)
          → (n ≡ e + i) × ((k : ℕ) → IsWrittenAt v s n k → ⊥)
      at_place again zero found =
          let one : Element e q (targets_of s.wires e) ≡ Element n p ts =
          same_Some (Element e q (targets_of s.wires e)) (Element n p ts) found in
          let number : e ≡ n = ap number_of one in
          (omega arith, subst (λ (m : ℕ). (k : ℕ) → IsWrittenAt v s m k → ⊥) number none)
      at_place again (suc i) found =
          let rest_is = again i found in
          let number : n ≡ suc e + i = rest_is.0 in
          (omega arith, rest_is.1)
  entries_unwritten e xs (column_entry k q rest written state is more) i n p ts has =
      at_place (λ j. entries_unwritten (suc (e + k)) rest more j n p ts) i
      (subst (λ (ys : List Sentence). slice_get ys i ≡ Some (Element n p ts)) is has)
    where
      at_place : ((j : ℕ) → slice_get rest j ≡ Some (Element n p ts)
          → (n ≡ suc (e + k) + j) × ((k : ℕ) → IsWrittenAt v s n k → ⊥)) → (i : ℕ)
          → slice_get (Column e k q ∷ (row_sentences s.wires e k ++ rest)) i ≡ Some (Element n p ts)
          → (n ≡ e + i) × ((k : ℕ) → IsWrittenAt v s n k → ⊥)
      at_place again zero found = absurd (no_column_line k q n p e ts found)
      at_place again (suc i) found =
          let behind = rows_no_element k e i n p ts rest found in
          let place : i ≡ k + behind.0 = behind.1 in
          let rest_is = again behind.0 behind.2 in
          let number : n ≡ suc (e + k) + behind.0 = rest_is.0 in
          (omega arith, rest_is.1)

  -- what the lines say, as a spelling
  abbrev said_spelling : List Sentence → Spelling
  said_spelling xs =
      record {
        elements = s.elements;
        wires = wires_after 6 xs;
        config = record { states = bars_in xs; place = s.config.place; steps = s.config.steps };
        start = s.start;
        end = s.end;
      }

  pub none-spelled-out : (xs : List Sentence) → AreEntries v s 0 xs → (e : ℕ) → IsSpelledOut (header_then head xs) e → ⊥
  none-spelled-out xs are e out =
      let place : header_lines + e ≡ suc (suc (suc (suc (suc (suc e))))) = omega arith in
      let has : slice_get xs e ≡ Some (Element e out.state out.targets) =
      subst (λ (n : ℕ). slice_get (header_then head xs) n ≡ Some (Element e out.state out.targets)) place
      out.has_line in
      let unwritten = entries_unwritten 0 xs are e e out.state out.targets has in
      let column : IsColumnAt (circuit_of s) s.config.states e out.column.0 =
      column_alike (said_spelling xs) s e out.column.0 refl (wires-said v s xs a are) (states-said v s a 0 xs are)
      out.column.1 in
      unwritten.1 out.column.0 (record { second = out.second; column = column })
