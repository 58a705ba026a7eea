-- The network that a text describes is sound: its modules are parts, and its wires lead one to one between their ports.
use Rattle.std.specs.Prelude.{◌≡◌, ℕ, ◌+◌, ◌-◌, ◌<◌, ◌≤◌, ◌&&◌, nat_lt, nat_le, true, false, List, [], ◌∷◌}
use Rattle.std.specs.Prelude.{◌++◌}
use Rattle.std.specs.Prelude.{length, map, Option, Some, None, slice_get, ◌⊎◌, refl, option_and_then}
use Rattle.std.specs.Option.{option_map_or}
use Rattle.std.proofs.Common.{zero, suc, arith, sym, ap, subst, ◌∙◌, inl, inr}
use Rattle.std.proofs.lemmas.Bool.{cases_lt}
use Rattle.std.proofs.lemmas.List.{length-append}
use Rattle.std.proofs.lemmas.Option.{slice_get_within}
use Rattle.bn_element.specs.Tables.{Table, IsReversible}
use Rattle.bn_circuits.specs.Circuits.{target, source, same_line, inputs_of, outputs_of, IsInputOf, IsOutputOf}
use Rattle.bn_circuits.specs.declared.line.Line.{Line}
use Rattle.bn_circuits.specs.declared.line.Wire.{Wire}
use Rattle.bn_circuits.proofs.WiringsLemmas.{apart-IsOneToOne}
use Rattle.bn_circuits.proofs.WireListLemmas.{line_tells}
use Rattle.bn_rsm.specs.Machines.{Machine}
use Rattle.bn_mixed_networks.specs.Parts.{Part, IsPart, part_table}
use Rattle.bn_mixed_networks.specs.Laws.{AreParts}
use Rattle.bn_mixed_networks.proofs.PartLemmas.{part-reversible, part-square}
use Rattle.bn_mixed_networks.proofs.PlaceLemmas.{part-of, table-of, input_table}
use Rattle.bn_network_text.specs.Entries.{Port, ModuleLine}
use Rattle.bn_network_text.specs.Saying.{said}
use Rattle.bn_network_text.specs.Lines.{Page, IsPage}
use Rattle.bn_network_text.specs.Faults.{said_at, entry_by, entry_in, count_by, count_in, count_or, count_fault}
use Rattle.bn_network_text.specs.Faults.{start_in}
use Rattle.bn_network_text.specs.Faults.{end_in, place_in, port_fault, has_port, is_up_to, is_at, ports_at, ports_of}
use Rattle.bn_network_text.specs.Faults.{line_of}
use Rattle.bn_network_text.specs.Faults.{line_fault, module_fault, wires_before}
use Rattle.bn_network_text.specs.Networks.{drawing_by, module_of, modules_before, modules_by, line_or}
use Rattle.bn_network_text.specs.declared.module.Module.{Module}
use Rattle.bn_network_text.specs.declared.module.TheConstants.{MOST_MODULES}
use Rattle.bn_network_text.specs.declared.sentence.Sentence.{Sentence}
use Rattle.bn_network_text.specs.declared.sentence.Sentence.TheVariants as sentences
use Rattle.bn_network_text.proofs.FaultLemmas.{at_module}
use Rattle.bn_network_circuit.specs.Realised.{shapes_of, parts_of, part_of, state_of}
use Rattle.bn_network_circuit.specs.Soundness.{AreTables, IsSound}
use Rattle.bn_network_circuit.specs.Laws.{NetworksAreSound}
use Rattle.bn_network_circuit.proofs.BarLemmas.{IsLow, said_low}
use Rattle.bn_network_circuit.proofs.PartLemmas.{IsKind, kind-of, both_true, lt_true, le_true}
use Rattle.bn_network_circuit.proofs.SoundLemmas.{AreFine, IsFine, IsEntry, entry-of, wires-fine, if_none, fault_some}
use Rattle.bn_network_circuit.proofs.SoundLemmas.{listed}

-- ---- lists

mapped_get : {X Y : Type 0} (f : X → Y) (xs : List X) (i : ℕ) (x : X) → slice_get xs i ≡ Some x
    → slice_get (map f xs) i ≡ Some (f x)
mapped_get f [] i x h = absurd (cc)
mapped_get f (y ∷ xs) zero x h = let same : y ≡ x = cc in ap (λ z. Some (f z)) same
mapped_get f (y ∷ xs) (suc i) x h = mapped_get f xs i x h

mapped_from : {X Y : Type 0} (f : X → Y) (xs : List X) (i : ℕ) (y : Y) → slice_get (map f xs) i ≡ Some y
    → (x : X) × (slice_get xs i ≡ Some x) × (f x ≡ y)
mapped_from f [] i y h = absurd (cc)
mapped_from f (x ∷ xs) zero y h = (x, refl, let same : f x ≡ y = cc in same)
mapped_from f (x ∷ xs) (suc i) y h = mapped_from f xs i y h

get_before : {X : Type 0} (xs ys : List X) (i : ℕ) (x : X) → slice_get xs i ≡ Some x → slice_get (xs ++ ys) i ≡ Some x
get_before [] ys i x h = absurd (cc)
get_before (y ∷ xs) ys zero x h = h
get_before (y ∷ xs) ys (suc i) x h = get_before xs ys i x h

get_last : {X : Type 0} (xs : List X) (x : X) → slice_get (xs ++ x ∷ []) (length xs) ≡ Some x
get_last [] x = refl
get_last (y ∷ xs) x = get_last xs x

same_line_itself : (l : Line) → same_line l l ≡ true
same_line_itself l = elim (line_tells l l) [ inl same ↦ same.0 | inr apart ↦ absurd (apart.1 refl) ]

same_some : {X : Type 0} (o : Option X) (x y : X) → o ≡ Some x → o ≡ Some y → x ≡ y
same_some o x y first second = cc

true_is_not_false : true ≡ false → ⊥
true_is_not_false h = cc

count_good : (o : Option ℕ) → count_fault o ≡ None → (0 < count_or o) × (count_or o ≤ MOST_MODULES)
count_good None h = absurd (fault_some _ h)
count_good (Some c) h =
    elim (if_none (nat_lt 0 c) _ _ h) [
      | inr bad ↦ absurd (fault_some _ bad.1)
      | inl a ↦ elim (if_none (nat_le c MOST_MODULES) _ _ a.1) [
        | inr bad ↦ absurd (fault_some _ bad.1)
        | inl b ↦ (lt_true 0 c a.0, le_true c MOST_MODULES b.0)
      ]
    ]

module _ (ms : List Machine) (are : AreTables ms) (text : List ℕ) (page : Page) (is_page : IsPage text page)
    (faultless : (n : ℕ) → line_fault (shapes_of ms) page n ≡ None) where
  abbrev says : List (Option Sentence)
  says = page.says

  counts : (0 < count_in page.says) × (count_in page.says ≤ MOST_MODULES)
  counts = count_good (count_by (said_at page.says 1)) (faultless 1)

  clear : (m : ℕ) → m < count_in page.says → module_fault (shapes_of ms) page.says m ≡ None
  clear m low = sym (at_module (shapes_of ms) page m low) ∙ faultless (m + 5)

  -- the line of a module is one that was said
  low_entry : (m : ℕ) (e : ModuleLine) → entry_in page.says m ≡ Some e → IsLow e.kind
  low_entry m e h = by_said (slice_get page.says (m + 5)) refl h
    where
      by_sentence : (x : Sentence) → slice_get page.says (m + 5) ≡ Some (Some x) → entry_by (Some x) ≡ Some e
          → IsLow e.kind
      by_sentence (sentences.Module f) at is =
          let same : f ≡ e = cc in
          let says = subst (λ xs. slice_get xs (m + 5) ≡ Some (Some (sentences.Module f))) is_page.says at in
          let line = mapped_from said is_page.lines (m + 5) (Some (sentences.Module f)) says in
          subst (λ (y : ModuleLine). IsLow y.kind) same (said_low line.0 (sentences.Module f) line.2)
      by_sentence sentences.Title at is = absurd (cc)
      by_sentence (sentences.Count c) at is = absurd (cc)
      by_sentence (sentences.Start p) at is = absurd (cc)
      by_sentence (sentences.End p) at is = absurd (cc)
      by_sentence (sentences.At p) at is = absurd (cc)

      by_said : (o : Option (Option Sentence)) → slice_get page.says (m + 5) ≡ o
          → entry_by (option_and_then (λ (x : Option Sentence). x) o) ≡ Some e → IsLow e.kind
      by_said None at is = absurd (cc)
      by_said (Some None) at is = absurd (cc)
      by_said (Some (Some x)) at is = by_sentence x at is

  entry : (m : ℕ) → m < count_in page.says → IsEntry (shapes_of ms) page.says m
  entry m low = entry-of (shapes_of ms) page.says m (clear m low)

  kind : (m : ℕ) → (low : m < count_in page.says) → IsKind ms (entry m low).entry.kind
      (length (entry m low).entry.targets)
  kind m low = let e = entry m low in kind-of ms are m e.entry (low_entry m e.entry e.has) e.head

  -- the modules of the first lines
  modules_are : (n : ℕ) → n ≤ count_in page.says → (length (modules_before page n) ≡ n)
      × ((m : ℕ) (e : ModuleLine) → m < n → entry_in page.says m ≡ Some e
      → slice_get (modules_before page n) m ≡ Some (module_of e.kind))
  modules_are zero few = (refl, λ m e low is. absurd (omega arith))
  modules_are (suc n) few =
      let before = modules_are n (omega arith) in
      let here = entry n (omega arith) in
      let list : modules_before page n ++ modules_by (entry_in page.says n)
      ≡ modules_before page n ++ module_of here.entry.kind ∷ [] =
      ap (λ o. modules_before page n ++ modules_by o) here.has in
      let count = ap length list ∙ length-append (modules_before page n) (module_of here.entry.kind ∷ []) in
      let known = before.0 in (
        omega arith,
        λ m e low is. elim (cases_lt m n) [
          | inl less ↦ get_before (modules_before page n) (modules_by (entry_in page.says n)) m (module_of e.kind)
              (before.1 m e less is)
          | inr more ↦
              (let same : m ≡ length (modules_before page n) = omega arith in
              let number : m ≡ n = omega arith in
              let there = subst (λ k. entry_in page.says k ≡ Some e) number is in
              let one : e ≡ here.entry = (let h = here.has in cc) in
              let last = get_last (modules_before page n) (module_of here.entry.kind) in
              subst (λ xs. slice_get xs m ≡ Some (module_of e.kind)) (sym list)
              (subst (λ k. slice_get (modules_before page n ++ module_of here.entry.kind ∷ []) k
              ≡ Some (module_of e.kind)) (sym same) (last ∙ ap (λ (x : ModuleLine). Some (module_of x.kind))
              (sym one))))
        ],
      )

  abbrev modules : List Module
  modules = modules_before page (count_in page.says)

  module_at : (m : ℕ) → (low : m < count_in page.says) → slice_get modules m ≡ Some (module_of (entry m low).entry.kind)
  module_at m low = (modules_are (count_in page.says) (omega arith)).1 m (entry m low).entry low (entry m low).has

  part_at : (m : ℕ) → (low : m < count_in page.says)
      → slice_get (parts_of ms modules) m ≡ Some (part_of ms (module_of (entry m low).entry.kind))
  part_at m low = mapped_get (part_of ms) modules m (module_of (entry m low).entry.kind) (module_at m low)

  low_module : (m : ℕ) (x : Module) → slice_get modules m ≡ Some x → m < count_in page.says
  low_module m x h = let within = slice_get_within modules m x h in
      let count = (modules_are (count_in page.says) (omega arith)).0 in omega arith

  -- ---- ports

  port_in : (p : Port) → has_port (shapes_of ms) page.says p ≡ true
      → IsInputOf (map part_table (parts_of ms modules)) (line_of p)
  port_in p h =
      let tests = both_true (nat_lt p.0 (count_in page.says) && nat_lt 0 p.1)
      (is_up_to p.1 (ports_at (shapes_of ms) page.says p.0)) h in
      let more = both_true (nat_lt p.0 (count_in page.says)) (nat_lt 0 p.1) tests.0 in
      let low = lt_true p.0 (count_in page.says) more.0 in
      let some = lt_true 0 p.1 more.1 in
      let e = entry p.0 low in
      let k = kind p.0 low in
      let ports : ports_at (shapes_of ms) page.says p.0
      ≡ Some (part_table (part_of ms (module_of e.entry.kind))).inputs =
      ap (option_and_then (λ (x : ModuleLine). ports_of (shapes_of ms) x.kind)) e.has ∙ k.ports in
      let up = subst (λ o. is_up_to p.1 o ≡ true) ports tests.1 in
      let most = le_true p.1 (part_table (part_of ms (module_of e.entry.kind))).inputs up in
      let table = table-of (parts_of ms modules) p.0 (part_of ms (module_of e.entry.kind)) (part_at p.0 low) in
      subst (λ o. p.1 - 1 < option_map_or (λ (t : Table). t.inputs) o 0) (sym table) (omega arith)

  is_part_at : (m : ℕ) (p : Part) → slice_get (parts_of ms modules) m ≡ Some p → IsPart p
  is_part_at m p h =
      let x = mapped_from (part_of ms) modules m p h in
      let low = low_module m x.0 x.1 in
      let same : x.0 ≡ module_of (entry m low).entry.kind = same_some _ x.0 (module_of (entry m low).entry.kind) x.1
      (module_at m low) in
      let part = subst (λ y. IsPart (part_of ms y)) (sym same) (kind m low).is_part in
      subst IsPart x.2 part

  -- an input port is an output port too
  square : (l : Line) → l.line < inputs_of (map part_table (parts_of ms modules)) l.element
      → l.line < outputs_of (map part_table (parts_of ms modules)) l.element
  square l low =
      let t = input_table (map part_table (parts_of ms modules)) l.element l.line low in
      let p = part-of (parts_of ms modules) l.element t.0 t.1 in
      let sides = part-square p.0 (is_part_at l.element p.0 p.1) in
      let outputs : t.0.outputs ≡ t.0.inputs = subst (λ (u : Table). u.outputs ≡ u.inputs) p.2 sides in
      subst (λ o. l.line < option_map_or (λ (u : Table). u.outputs) o 0) (sym t.1)
      (subst (λ n. l.line < n) (sym outputs) t.2)

  port_out : (p : Port) → has_port (shapes_of ms) page.says p ≡ true
      → IsOutputOf (map part_table (parts_of ms modules)) (line_of p)
  port_out p h = square (line_of p) (port_in p h)

  -- ---- wires

  abbrev wires : List Wire
  wires = wires_before page.says (count_in page.says)

  fine : AreFine (shapes_of ms) page.says (count_in page.says) 0 wires
  fine = wires-fine (shapes_of ms) page.says (count_in page.says) (λ m low. clear m low)

  leaves_by_port : (w : Wire) → IsFine (shapes_of ms) page.says (count_in page.says) 0 w
      → IsOutputOf (map part_table (parts_of ms modules)) w.from
  leaves_by_port w f = square w.from (by_order f.before)
    where
      at_low : w.from.element < count_in page.says → w.from.line
          < inputs_of (map part_table (parts_of ms modules)) w.from.element
      at_low low =
          let e = entry w.from.element low in
          let k = kind w.from.element low in
          let same : f.entry ≡ e.entry = same_some _ f.entry e.entry f.has_entry e.has in
          let out = subst (λ (x : ModuleLine). w.from.line < length x.targets) same f.out in
          let table = table-of (parts_of ms modules) w.from.element (part_of ms (module_of e.entry.kind))
          (part_at w.from.element low) in
          subst (λ o. w.from.line < option_map_or (λ (t : Table). t.inputs) o 0) (sym table)
          (subst (λ n. w.from.line < n) k.count out)

      by_order : (w.from.element < count_in page.says) ⊎ ((w.from.element ≡ count_in page.says) × (w.from.line < 0))
          → w.from.line < inputs_of (map part_table (parts_of ms modules)) w.from.element
      by_order (inl low) = at_low low
      by_order (inr none) = absurd (let h = none.1 in omega arith)

  parts_are : AreParts (parts_of ms modules) wires
  parts_are = record {
    parts = is_part_at;
    circuit = record {
      reversible = λ e t at. let p = part-of (parts_of ms modules) e t at in
          subst IsReversible p.2 (part-reversible p.0 (is_part_at e p.0 p.1));
      one_to_one = apart-IsOneToOne wires fine.apart;
      wired = λ from to leads. let at = listed wires from to leads in
          let f = fine.fine at.0 (record { from = from; to = to }) at.1 in (
            leaves_by_port (record { from = from; to = to }) f,
            subst (λ l. IsInputOf (map part_table (parts_of ms modules)) l) (sym f.ends) (port_in f.port f.there),
          );
    };
    apart = fine.apart;
  }

  -- ---- the three ports

  pub record IsNamed (o : Option Port) : Type 0 where
    pub port : Port
    pub is : o ≡ Some port
    pub there : has_port (shapes_of ms) page.says port ≡ true

  named : (o : Option Port) → port_fault (shapes_of ms) page.says o ≡ None → IsNamed o
  named None h = absurd (fault_some _ h)
  named (Some p) h =
      elim (if_none (has_port (shapes_of ms) page.says p) _ _ h) [
        | inl a ↦ record { port = p; is = refl; there = a.0 }
        | inr bad ↦ absurd (fault_some _ bad.1)
      ]

  named_line : (o : Option Port) → (n : IsNamed o) → line_or o ≡ line_of n.port
  named_line o n = ap line_or n.is

  unfed : source wires (line_or (start_in page.says)) ≡ None
  unfed = by_source (source wires (line_or (start_in page.says))) refl
    where
      by_source : (o : Option Line) → source wires (line_or (start_in page.says)) ≡ o → o ≡ None
      by_source None is = refl
      by_source (Some from) is =
          let n = named (start_in page.says) (faultless 2) in
          let leads = (apart-IsOneToOne wires fine.apart from (line_or (start_in page.says))).1 is in
          let at = listed wires from (line_or (start_in page.says)) leads in
          let f = fine.fine at.0 (record { from = from; to = line_or (start_in page.says) }) at.1 in
          let here : is_at (start_in page.says) (line_or (start_in page.says)) ≡ true =
          ap (λ o. is_at o (line_or (start_in page.says))) n.is
          ∙ ap (same_line (line_of n.port)) (named_line (start_in page.says) n) ∙ same_line_itself (line_of n.port) in
          absurd (true_is_not_false (sym here ∙ f.not_start))

  unwired : target wires (line_or (end_in page.says)) ≡ None
  unwired = by_target (target wires (line_or (end_in page.says))) refl
    where
      by_target : (o : Option Line) → target wires (line_or (end_in page.says)) ≡ o → o ≡ None
      by_target None is = refl
      by_target (Some to) is =
          let n = named (end_in page.says) (faultless 3) in
          let at = listed wires (line_or (end_in page.says)) to is in
          let f = fine.fine at.0 (record { from = line_or (end_in page.says); to = to }) at.1 in
          let here : is_at (end_in page.says) (line_or (end_in page.says)) ≡ true =
          ap (λ o. is_at o (line_or (end_in page.says))) n.is
          ∙ ap (same_line (line_of n.port)) (named_line (end_in page.says) n) ∙ same_line_itself (line_of n.port) in
          absurd (true_is_not_false (sym here ∙ f.not_end))

  state_at : (m : ℕ) (x : Module) → slice_get modules m ≡ Some x → state_of x < (part_table (part_of ms x)).states
  state_at m x h =
      let low = low_module m x h in
      let same : module_of (entry m low).entry.kind ≡ x = same_some _ (module_of (entry m low).entry.kind) x
      (module_at m low) h in
      subst (λ y. state_of y < (part_table (part_of ms y)).states) same (kind m low).state

  sound_page : IsSound ms (drawing_by page)
  sound_page =
      let count = (modules_are (count_in page.says) (omega arith)).0 in
      let known = counts in
      let start = named (start_in page.says) (faultless 2) in
      let end = named (end_in page.says) (faultless 3) in
      let place = named (place_in page.says) (faultless 4) in
      record {
        some = omega (arith, counts.0);
        few = omega (arith, counts.1);
        parts = parts_are;
        states = state_at;
        start = subst (IsInputOf (map part_table (parts_of ms modules))) (sym (named_line (start_in page.says) start))
            (port_in start.port start.there);
        end = subst (IsOutputOf (map part_table (parts_of ms modules))) (sym (named_line (end_in page.says) end))
            (port_out end.port end.there);
        place = subst (IsInputOf (map part_table (parts_of ms modules))) (sym (named_line (place_in page.says) place))
            (port_in place.port place.there);
        unfed = unfed;
        unwired = unwired;
      }

pub sound : NetworksAreSound
sound ms text d are h = subst (IsSound ms) (sym h.drawing) (sound_page ms are text h.page h.is_page h.faultless)
