-- The entries of a configuration say its states and its wires, all of them and no others.
use Rattle.std.specs.Prelude.{◌≡◌, ℕ, ◌+◌, ◌-◌, ◌<◌, ◌≤◌, List, [], ◌∷◌, ◌++◌, drop, replicate, Option, Some, None}
use Rattle.std.specs.Prelude.{slice_get, refl}
use Rattle.std.proofs.Common.{zero, suc, arith, sym, ap, subst, ◌∙◌, inl, inr}
use Rattle.std.proofs.lemmas.Bool.{cases_lt, cases_eq}
use Rattle.bn_circuits.specs.Circuits.{target}
use Rattle.bn_circuits.specs.declared.line.Line.{Line}
use Rattle.bn_circuits.specs.declared.line.Wire.{Wire}
use Rattle.bn_element.specs.Rotary.{vertical, north, east, south, west}
use Rattle.bn_column.specs.Columns.{IsInner, down, up, under, over, top}
use Rattle.bn_circuits.specs.Circuits.{line_at}
use Rattle.bn_circuits.proofs.WiringsLemmas.{apart-wire}
use Rattle.bn_netlist_laws.specs.Spelling.{Spelling, circuit_of, targets_of}
use Rattle.bn_netlist_laws.specs.Faults.{wires_from}
use Rattle.bn_netlist_laws.proofs.WireLemmas.{Each, each_append, each_weaker, rotary_output}
use Rattle.bn_netlist_laws.specs.Columns.{IsColumnAt, inner_wires}
use Rattle.bn_netlist_laws.specs.Sentences.{Sentence, Row}
use Rattle.bn_netlist_laws.specs.Spelling.{Admits, row_sentences, AreEntries, no_entry, element_entry, column_entry}
use Rattle.bn_netlist_laws.specs.Faults.{line_wires, wires_after, bars_in, row_targets, row_number}
use Rattle.bn_netlist_laws.specs.declared.version.Version.{Version}
use Rattle.bn_netlist_laws.proofs.ColumnLemmas.{inner-are}
use Rattle.bn_netlist_laws.proofs.EntryLemmas.{count_states}
use Rattle.bn_netlist_laws.proofs.LineLemmas.{HasWire, has_left, has_right, AreOf, exact, AreLeading, lead, row_leading}
use Rattle.bn_netlist_laws.proofs.LineLemmas.{from_are, from_has, each_of, drop_more, drop_all}

-- ---- states

upright_drop : (states : List ℕ) (e k : ℕ) (more : List ℕ) → ((r : ℕ) → r < k
    → slice_get states (e + r) ≡ Some vertical) → drop (e + k) states ≡ more
    → drop e states ≡ replicate k vertical ++ more
upright_drop states e zero more upright is = let same : e ≡ e + 0 =
    omega arith in ap (λ (n : ℕ). drop n states) same ∙ is
upright_drop states e (suc k) more upright is =
    let same : e + 0 ≡ e = omega arith in
    let first : slice_get states e ≡ Some vertical = subst (λ (n : ℕ). slice_get states n ≡ Some vertical) same
    (upright 0 (omega arith)) in
    let place : suc e + k ≡ e + suc k = omega arith in
    let rest = upright_drop states (suc e) k more (λ r below. let same : suc e + r
    ≡ e + suc r = omega arith in subst (λ (n : ℕ). slice_get states n ≡ Some vertical) (sym same)
    (upright (suc r) (omega arith))) (ap (λ (n : ℕ). drop n states) place ∙ is) in
    drop_more states e vertical first ∙ ap (λ (qs : List ℕ). vertical ∷ qs) rest

states_in-rows : (ws : List Wire) (e k : ℕ) (rest : List Sentence)
    → bars_in (row_sentences ws e k ++ rest) ≡ bars_in rest
states_in-rows ws e zero rest = refl
states_in-rows ws e (suc k) rest = states_in-rows ws (suc e) k rest

module _ (v : Version) (s : Spelling) (a : Admits v s) where
  pub states-said : (e : ℕ) (xs : List Sentence) → AreEntries v s e xs → bars_in xs ≡ drop e s.config.states
  states-said e xs (no_entry all is) =
      let count = count_states v s a in
      ap bars_in is ∙ sym (drop_all s.config.states e (omega arith))
  states-said e xs (element_entry q rest has none is more) =
      ap bars_in is ∙ ap (λ (qs : List ℕ). q ∷ qs) (states-said (suc e) rest more)
      ∙ sym (drop_more s.config.states e q has)
  states-said e xs (column_entry k q rest written has is more) =
      let behind = states-said (suc (e + k)) rest more in
      let tail : drop (e + k) s.config.states ≡ q ∷ bars_in rest =
      drop_more s.config.states (e + k) q has ∙ ap (λ (qs : List ℕ). q ∷ qs) (sym behind) in
      ap bars_in is
      ∙ ap (λ (qs : List ℕ). replicate k vertical ++ q ∷ qs) (states_in-rows s.wires e k rest)
      ∙ sym (upright_drop s.config.states e k (q ∷ bars_in rest) written.column.upright tail)

-- ---- each wire that is said is one of the circuit

pub targets_leading : (all : List Wire) (e : ℕ) → AreLeading all e 0 (targets_of all e)
targets_leading all e =
    lead all e 0 (target all (line_at e 0)) _ refl
    (lead all e 1 (target all (line_at e 1)) _ refl
    (lead all e 2 (target all (line_at e 2)) _ refl
    (lead all e 3 (target all (line_at e 3)) [] refl tt)))

pub inner_each : (b k : ℕ) → 0 < k → Each (λ w. IsInner b k w.from w.to) (inner_wires b k)
inner_each b k some =
    let are = inner-are b k some in
    each_of (λ w. IsInner b k w.from w.to) (inner_wires b k) (λ n w has. are.sound w.from w.to
    (apart-wire (inner_wires b k) n w are.apart has))

pub inner_of : (s : Spelling) (b k : ℕ) → IsColumnAt (circuit_of s) s.config.states b k
    → AreOf s.wires (inner_wires b k)
inner_of s b k is = each_weaker (λ w. IsInner b k w.from w.to) (λ w. target s.wires w.from ≡ Some w.to)
    (λ w inner. is.column.wired w.from w.to inner) (inner_wires b k) (inner_each b k is.some)

rows_of : (all : List Wire) (m e j : ℕ) (rest : List Sentence) → j ≡ e + 7 → AreOf all (wires_after (j + m) rest)
    → AreOf all (wires_after j (row_sentences all e m ++ rest))
rows_of all zero e j rest place are = let same : j + 0 ≡ j =
    omega arith in subst (λ (n : ℕ). AreOf all (wires_after n rest)) same are
rows_of all (suc m) e j rest place are =
    let x = target all (line_at e east) in
    let y = target all (line_at e west) in
    let number : e ≡ row_number j = omega arith in
    let here : AreOf all (wires_from (row_number j) east (row_targets x y)) =
    subst (λ (n : ℕ). AreOf all (wires_from n east (row_targets x y))) number
    (from_are all e east (row_targets x y) (row_leading all e)) in
    let next : suc j + m ≡ j + suc m = omega arith in
    let behind : AreOf all (wires_after (suc j + m) rest) = subst (λ (n : ℕ). AreOf all (wires_after n rest)) (sym next)
    are in
    each_append (λ w. target all w.from ≡ Some w.to) (wires_from (row_number j) east (row_targets x y))
    (wires_after (suc j) (row_sentences all (suc e) m ++ rest)) here
    (rows_of all m (suc e) (suc j) rest (omega arith) behind)

pub wires-of : (v : Version) (s : Spelling) (e i : ℕ) (xs : List Sentence) → i ≡ e + 6 → AreEntries v s e xs
    → AreOf s.wires (wires_after i xs)
wires-of v s e i xs place (no_entry all is) = subst (λ (ys : List Sentence). AreOf s.wires (wires_after i ys)) (sym is)
    tt
wires-of v s e i xs place (element_entry q rest has none is more) =
    let here = from_are s.wires e 0 (targets_of s.wires e) (targets_leading s.wires e) in
    let behind = wires-of v s (suc e) (suc i) rest (omega arith) more in
    let all = each_append (λ w. target s.wires w.from ≡ Some w.to) (wires_from e 0 (targets_of s.wires e))
    (wires_after (suc i) rest) here behind in
    subst (λ (ys : List Sentence). AreOf s.wires (wires_after i ys)) (sym is) all
wires-of v s e i xs place (column_entry k q rest written has is more) =
    let here = inner_of s e k written.column in
    let behind = wires-of v s (suc (e + k)) (suc i + k) rest (omega arith) more in
    let rows = rows_of s.wires k e (suc i) rest (omega arith) behind in
    let all = each_append (λ w. target s.wires w.from ≡ Some w.to) (inner_wires e k)
    (wires_after (suc i) (row_sentences s.wires e k ++ rest)) here rows in
    subst (λ (ys : List Sentence). AreOf s.wires (wires_after i ys)) (sym is) all

-- ---- and each of the circuit is said

inner_has : (b k : ℕ) (from to : Line) → 0 < k → IsInner b k from to → HasWire (inner_wires b k) from
inner_has b k from to some inner none = some_none to (sym ((inner-are b k some).complete from to inner) ∙ none)
  where
    some_none : (l : Line) → ◌≡◌ {A = Option Line} (Some l) None → ⊥
    some_none l e = cc

-- which output of a row the line tells
data IsSide (l : ℕ) : Type 0 where
  is_east : l ≡ east → IsSide l
  is_west : l ≡ west → IsSide l

targets_has : (all : List Wire) (e l : ℕ) (to : Line) → l < 4 → target all (line_at e l) ≡ Some to
    → HasWire (wires_from e 0 (targets_of all e)) (line_at e l)
targets_has all e l to low leads = from_has e 0 (targets_of all e) l l to (at_line l low leads) (omega arith)
  where
    at_line : (l : ℕ) → l < 4 → target all (line_at e l) ≡ Some to → slice_get (targets_of all e) l ≡ Some (Some to)
    at_line zero h leads = ap (λ (o : Option Line). Some o) leads
    at_line (suc zero) h leads = ap (λ (o : Option Line). Some o) leads
    at_line (suc (suc zero)) h leads = ap (λ (o : Option Line). Some o) leads
    at_line (suc (suc (suc zero))) h leads = ap (λ (o : Option Line). Some o) leads
    at_line (suc (suc (suc (suc l)))) h leads = absurd (omega arith)

side_has : (all : List Wire) (e l : ℕ) (to : Line) → IsSide l → target all (line_at e l) ≡ Some to
    → HasWire (wires_from e east (row_targets (target all (line_at e east)) (target all (line_at e west))))
    (line_at e l)
side_has all e l to (is_east is) leads =
    let found : target all (line_at e east) ≡ Some to = subst (λ (n : ℕ). target all (line_at e n) ≡ Some to) is leads
    in
    from_has e east (row_targets (target all (line_at e east)) (target all (line_at e west))) 0 l to
    (ap (λ (o : Option Line). Some o) found) is
side_has all e l to (is_west is) leads =
    let found : target all (line_at e west) ≡ Some to = subst (λ (n : ℕ). target all (line_at e n) ≡ Some to) is leads
    in
    from_has e east (row_targets (target all (line_at e east)) (target all (line_at e west))) 2 l to
    (ap (λ (o : Option Line). Some o) found) is

rows_have : (all : List Wire) (m e j : ℕ) (rest : List Sentence) (f l : ℕ) (to : Line) → j ≡ e + 7 → e ≤ f → f < e + m
    → IsSide l → target all (line_at f l) ≡ Some to → HasWire (wires_after j (row_sentences all e m ++ rest))
    (line_at f l)
rows_have all zero e j rest f l to place low high side leads = absurd (omega arith)
rows_have all (suc m) e j rest f l to place low high side leads =
    let ts = row_targets (target all (line_at e east)) (target all (line_at e west)) in
    let number : e ≡ row_number j = omega arith in
    elim (cases_eq f e) [
      | inl same ↦
          (let at_e : target all (line_at e l) ≡ Some to = subst (λ (n : ℕ). target all (line_at n l) ≡ Some to) same
          leads in
          let here = side_has all e l to side at_e in
          let there : HasWire (wires_from (row_number j) east ts) (line_at f l) =
          subst (λ (n : ℕ). HasWire (wires_from n east ts) (line_at f l)) number
          (subst (λ (n : ℕ). HasWire (wires_from e east ts) (line_at n l)) (sym same) here) in
          has_left (wires_from (row_number j) east ts) (wires_after (suc j) (row_sentences all (suc e) m ++ rest))
          (line_at f l) there)
      | inr later ↦
          has_right (wires_from (row_number j) east ts) (wires_after (suc j) (row_sentences all (suc e) m ++ rest))
          (line_at f l)
          (rows_have all m (suc e) (suc j) rest f l to (omega arith) (omega (arith, later)) (omega arith) side leads)
    ]

behind_rows : (all : List Wire) (m e j : ℕ) (rest : List Sentence) (from : Line)
    → HasWire (wires_after (j + m) rest) from → HasWire (wires_after j (row_sentences all e m ++ rest)) from
behind_rows all zero e j rest from h = let same : j + 0 ≡ j =
    omega arith in subst (λ (n : ℕ). HasWire (wires_after n rest) from) same h
behind_rows all (suc m) e j rest from h =
    let next : suc j + m ≡ j + suc m = omega arith in
    has_right (line_wires j (Row (target all (line_at e east)) (target all (line_at e west))))
    (wires_after (suc j) (row_sentences all (suc e) m ++ rest)) from
    (behind_rows all m (suc e) (suc j) rest from (subst (λ (n : ℕ). HasWire (wires_after n rest) from) (sym next) h))

-- an output of a column: one of its own wires leaves it, or it is the side of a row, or the bottom's loose output
data IsOutputOf (b k f l : ℕ) : Type 0 where
  own : (to : Line) → IsInner b k (line_at f l) to → IsOutputOf b k f l
  side : f < b + k → IsSide l → IsOutputOf b k f l
  free : f ≡ b + k → l ≡ east → IsOutputOf b k f l

output_of : (b k f l : ℕ) → 0 < k → b ≤ f → f ≤ b + k → l < 4 → IsOutputOf b k f l
output_of b k f zero some low high line =
    elim (cases_eq f b) [
      | inl same ↦ own (line_at (b + k) east) (top (ap (λ (n : ℕ). line_at n north) same) refl)
      | inr later ↦
          (let r = f - (b + 1) in
          let is : f ≡ b + (r + 1) = omega (arith, later) in
          own (line_at (b + r) south) (up r (omega (arith, later)) (ap (λ (n : ℕ). line_at n north) is) refl))
    ]
output_of b k f (suc zero) some low high line =
    elim (cases_eq f (b + k)) [
      | inl same ↦ free same refl
      | inr row ↦ side (omega (arith, row)) (is_east refl)
    ]
output_of b k f (suc (suc zero)) some low high line =
    elim (cases_eq f (b + k)) [
      | inl same ↦ own (line_at (b + k) south) (under (ap (λ (n : ℕ). line_at n south) same) refl)
      | inr row ↦
          (let r = f - b in
          let is : f ≡ b + r = omega arith in
          own (line_at (b + (r + 1)) north) (down r (omega (arith, row)) (ap (λ (n : ℕ). line_at n south) is) refl))
    ]
output_of b k f (suc (suc (suc zero))) some low high line =
    elim (cases_eq f (b + k)) [
      | inl same ↦ own (line_at b north) (over (ap (λ (n : ℕ). line_at n west) same) refl)
      | inr row ↦ side (omega (arith, row)) (is_west refl)
    ]
output_of b k f (suc (suc (suc (suc l)))) some low high line = absurd (omega arith)

pub wires-have : (v : Version) (s : Spelling) (e i : ℕ) (xs : List Sentence) → i ≡ e + 6 → AreEntries v s e xs
    → (f l : ℕ) (to : Line) → e ≤ f → f < s.elements → l < 4 → target s.wires (line_at f l) ≡ Some to
    → HasWire (wires_after i xs) (line_at f l)
wires-have v s e i xs place (no_entry all is) f l to low high line leads = absurd (omega arith)
wires-have v s e i xs place (element_entry q rest has none is more) f l to low high line leads =
    let ts = targets_of s.wires e in
    let found : HasWire (wires_from e 0 ts ++ wires_after (suc i) rest) (line_at f l) =
    elim (cases_eq f e) [
      | inl same ↦
          (let at_e : target s.wires (line_at e l) ≡ Some to = subst (λ (n : ℕ). target s.wires (line_at n l) ≡ Some to)
          same leads in
          has_left (wires_from e 0 ts) (wires_after (suc i) rest) (line_at f l)
          (subst (λ (n : ℕ). HasWire (wires_from e 0 ts) (line_at n l)) (sym same)
          (targets_has s.wires e l to line at_e)))
      | inr later ↦ has_right (wires_from e 0 ts) (wires_after (suc i) rest) (line_at f l)
          (wires-have v s (suc e) (suc i) rest (omega arith) more f l to (omega (arith, later)) high line leads)
    ]
    in
    subst (λ (ys : List Sentence). HasWire (wires_after i ys) (line_at f l)) (sym is) found
wires-have v s e i xs place (column_entry k q rest written has is more) f l to low high line leads =
    let rows : List Wire = wires_after (suc i) (row_sentences s.wires e k ++ rest) in
    let found : HasWire (inner_wires e k ++ rows) (line_at f l) =
    elim (cases_lt (e + k) f) [
      | inl later ↦
          has_right (inner_wires e k) rows (line_at f l)
          (behind_rows s.wires k e (suc i) rest (line_at f l) (wires-have v s (suc (e + k)) (suc i + k) rest
          (omega arith) more f l to later high line leads))
      | inr inside ↦ by_output rows (output_of e k f l written.column.some low inside line)
    ]
    in
    subst (λ (ys : List Sentence). HasWire (wires_after i ys) (line_at f l)) (sym is) found
  where
    none_some : (t : Line) → ◌≡◌ {A = Option Line} None (Some t) → ⊥
    none_some t e = cc

    by_output : (rows : List Wire) → IsOutputOf e k f l → HasWire
        (inner_wires e k ++ wires_after (suc i) (row_sentences s.wires e k ++ rest)) (line_at f l)
    by_output rows (own t inner) = has_left (inner_wires e k) (wires_after (suc i) (row_sentences s.wires e k ++ rest))
        (line_at f l) (inner_has e k (line_at f l) t written.column.some inner)
    by_output rows (side row is_side) = has_right (inner_wires e k)
        (wires_after (suc i) (row_sentences s.wires e k ++ rest)) (line_at f l)
        (rows_have s.wires k e (suc i) rest f l to (omega arith) low row is_side leads)
    by_output rows (free bottom at_east) =
        absurd (none_some to (sym written.column.loose ∙ (λ j. target s.wires (line_at (sym bottom j) (sym at_east j)))
        ∙ leads))

-- so both lead alike
pub wires-said : (v : Version) (s : Spelling) (xs : List Sentence) → Admits v s → AreEntries v s 0 xs → (from : Line)
    → target (wires_after 6 xs) from ≡ target s.wires from
wires-said v s xs a are from =
    exact s.wires (wires_after 6 xs) (wires-of v s 0 6 xs refl are) from (λ to leads.
    let there = rotary_output s.elements from.element from.line (a.circuit.wired from to leads).0 in
    wires-have v s 0 6 xs refl are from.element from.line to (omega arith) there.0 there.1 leads)
