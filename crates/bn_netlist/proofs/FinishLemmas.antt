-- A text that has been read to its end: its wires and bars, and the first of its columns that is spelled out.
use Rattle.std.specs.Prelude.{◌≡◌, ℕ, ◌+◌, ◌-◌, ◌<◌, ◌≤◌, Bool, true, false, List, [], ◌∷◌, ◌++◌, length, replicate}
use Rattle.std.specs.Prelude.{Option, Some, None, slice_get, refl}
use Rattle.std.proofs.Common.{zero, suc, arith, sym, ap, subst, ◌∙◌, inl, inr}
use Rattle.std.proofs.lemmas.Bool.{cases_lt}
use Rattle.std.proofs.lemmas.List.{append_assoc, append-nil, length-append, length-replicate}
use Rattle.std.proofs.lemmas.Option.{same_Some}
use Rattle.bn_lists.specs.Lists.{IsLeast}
use Rattle.bn_element.specs.Tables.{Table}
use Rattle.bn_circuits.specs.Circuits.{Circuit, IsConfig, target, source, line_at}
use Rattle.bn_circuits.specs.declared.config.Config.{Config}
use Rattle.bn_circuits.specs.declared.line.Line.{Line}
use Rattle.bn_circuits.specs.declared.line.Wire.{Wire}
use Rattle.bn_circuits.proofs.WireListLemmas.{line_tells}
use Rattle.bn_circuits.proofs.WiringsLemmas.{apart-append, apart-IsOneToOne}
use Rattle.bn_circuits.specs.Wirings.{AreApart}
use Rattle.bn_packed.specs.Drafts.{AreDrawn}
use Rattle.bn_packed.specs.Ends.{EndList}
use Rattle.bn_element.specs.Rotary.{rotary, vertical, east}
use Rattle.bn_netlist_laws.specs.Columns.{IsColumnAt}
use Rattle.bn_netlist_laws.specs.Sentences.{Sentence, Element, Column, Row, lines_text}
use Rattle.bn_netlist_laws.specs.Spelling.{AreSame, Admits, Spelled, Spelling, circuit_of, header_then}
use Rattle.bn_netlist_laws.specs.Faults.{header_lines, bars_in, wires_after, AreFaultlessAfter, AreWhole, IsSpelledOut}
use Rattle.bn_netlist_laws.specs.Faults.{IsFirstSpelledOut}
use Rattle.bn_netlist_laws.specs.declared.version.Version.TheVariants.{Two}
use Rattle.bn_netlist_laws.specs.declared.header.Header.{Header}
use Rattle.bn_netlist_laws.proofs.LineLemmas.{length_more}
use Rattle.bn_netlist_laws.proofs.TextLemmas.{first_after}
use Rattle.bn_netlist_laws.proofs.BlockLemmas.{Blocks, no_block, single, group, blocks, row_lines, element_line}
use Rattle.bn_netlist_laws.proofs.FitLemmas.{Fits, AllFit, blocks_fit, length_rows}
use Rattle.bn_netlist_laws.proofs.WholeLemmas.{said_by, get_behind}
use Rattle.bn_netlist_laws.proofs.SpellsLemmas.{said-admitted, whole-said}
use Rattle.bn_netlist_laws.proofs.VersionLemmas.{spelled-alike}
use Rattle.bn_netlist.specs.Drafting.{HasDrawn, own_in, IsOwnColumn}
use Rattle.bn_netlist.specs.Finishing.{IsWholeDraft}
use Rattle.bn_netlist.specs.WireSpelling.{spelling_by}
use Rattle.bn_netlist_laws.proofs.AdmittedLemmas.{none_is_not_some as none_some}

-- ---- the wires of whole lines are apart and fit, and their bars and place are a configuration

fit-AreApart : (h : Header) (earlier ws : List Wire) → AreApart earlier → AllFit h earlier ws → AreApart (earlier ++ ws)
fit-AreApart h earlier [] apart fit = subst AreApart (sym (append-nil earlier)) apart
fit-AreApart h earlier (w ∷ ws) apart fit =
    let here : Fits h earlier w = fit.0 in
    subst AreApart (append_assoc earlier (w ∷ []) ws)
    (fit-AreApart h (earlier ++ w ∷ []) ws (apart-append earlier (w ∷ []) apart (refl, refl, tt) (λ from to leads. (
      elim (line_tells w.from from) [
        | inl same ↦ absurd (none_some to (target earlier from) (subst (λ (l : Line). target earlier l ≡ None) same.1
            here.unwired) leads)
        | inr other ↦ rw other.0 refl
      ],
      elim (line_tells w.to to) [
        | inl same ↦ absurd (none_some from (source earlier to) (subst (λ (l : Line). source earlier l ≡ None) same.1
            here.free) ((apart-IsOneToOne earlier apart from to).0 leads))
        | inr other ↦ rw other.0 refl
      ],
    ))) fit.1)

whole_blocks : (h : Header) (rows : List Sentence) → AreWhole (header_then h rows) → Blocks rows
whole_blocks h rows whole =
    let complete : length (header_then h rows) ≡ header_lines + h.count = whole.complete in
    blocks h (suc (length rows)) [] rows (omega arith) refl (omega arith) whole.faultless.2.2.2.2.2.2

module _ (h : Header) (rows : List Sentence) (whole : AreWhole (header_then h rows)) where
  whole_fit : AllFit h [] (wires_after 6 rows)
  whole_fit = blocks_fit h [] rows 0 6 (whole_blocks h rows whole) refl refl tt whole.faultless.2.2.2.2.2.2

  pub whole-AreApart : (wires : List Wire) → wires ≡ wires_after 6 rows → AreApart wires
  whole-AreApart wires is = subst AreApart (sym is) (fit-AreApart h [] (wires_after 6 rows) tt whole_fit)

  pub whole-IsConfig : (wires : List Wire) (states : List ℕ) → wires ≡ wires_after 6 rows → states ≡ bars_in rows
      → IsConfig (circuit_of (spelling_by h wires states)) (spelling_by h wires states).config
  whole-IsConfig wires states wires_are states_are =
      let complete : length (header_then h rows) ≡ header_lines + h.count = whole.complete in
      let said : Admits h.version (said_by h rows) = said-admitted h rows whole.faultless (whole_blocks h rows whole)
      (omega arith) in
      subst (λ (ws : List Wire). IsConfig (circuit_of (spelling_by h ws states)) (spelling_by h ws states).config)
      (sym wires_are)
      (subst (λ (qs : List ℕ). IsConfig (circuit_of (spelling_by h (wires_after 6 rows) qs))
      (spelling_by h (wires_after 6 rows) qs).config) (sym states_are) said.config)

  -- the draft has the wires of the lines
  pub whole-AreDrawn : (drawn : EndList) → HasDrawn h.count (wires_after 6 rows) drawn
      → AreDrawn h.count (wires_after 6 rows) drawn
  whole-AreDrawn drawn has = has.drawn_if (whole-AreApart (wires_after 6 rows) refl)

-- ---- lines of their own

record IsOwnLine (rows : List Sentence) (n e : ℕ) : Type 0 where
  state : ℕ
  targets : List (Option Line)
  has : slice_get rows e ≡ Some (Element n state targets)

false_is_not_true : false ≡ true → ⊥
false_is_not_true e = cc

not_own : (k e : ℕ) (more : List Bool) → e ≤ k → slice_get (replicate k false ++ false ∷ more) e ≡ Some true → ⊥
not_own zero zero more low has = false_is_not_true (same_Some false true has)
not_own zero (suc e) more low has = omega arith
not_own (suc k) zero more low has = false_is_not_true (same_Some false true has)
not_own (suc k) (suc e) more low has = not_own k e more (omega arith) has

own_behind : (k e : ℕ) (more : List Bool) → slice_get (replicate k false ++ false ∷ more) (suc (k + e))
    ≡ slice_get more e
own_behind zero e more = let same : 0 + e ≡ e = omega arith in ap (λ (n : ℕ). slice_get more n) same
own_behind (suc k) e more = let same : suc (suc k + e) ≡ suc (suc (k + e)) =
    omega arith in ap (λ (n : ℕ). slice_get (replicate (suc k) false ++ false ∷ more) n) same ∙ own_behind k e more

no_row : (x y : Option Line) (n q : ℕ) (ts : List (Option Line))
    → ◌≡◌ {A = Option Sentence} (Some (Row x y)) (Some (Element n q ts)) → ⊥
no_row x y n q ts h = cc

no_column : (b k p n q : ℕ) (ts : List (Option Line)) → ◌≡◌ {A = Option Sentence} (Some (Column b k p))
    (Some (Element n q ts)) → ⊥
no_column b k p n q ts h = cc

rows_not_own : (sides : List (Option Line × Option Line)) (rest : List Sentence) (e n q : ℕ) (ts : List (Option Line))
    → e < length sides → slice_get (row_lines sides ++ rest) e ≡ Some (Element n q ts) → ⊥
rows_not_own [] rest e n q ts low has = omega arith
rows_not_own (p ∷ ps) rest zero n q ts low has = no_row p.0 p.1 n q ts has
rows_not_own (p ∷ ps) rest (suc e) n q ts low has = rows_not_own ps rest e n q ts (omega arith) has

own_rows : (sides : List (Option Line × Option Line)) (rest : List Sentence)
    → own_in (row_lines sides ++ rest) ≡ own_in rest
own_rows [] rest = refl
own_rows (p ∷ ps) rest = own_rows ps rest

-- an element is marked exactly where its line is one of its own
own_line : (h : Header) (done rows : List Sentence) (e n : ℕ) → Blocks rows → n ≡ length done + e
    → AreFaultlessAfter (header_then h done) rows → slice_get (own_in rows) e ≡ Some true → IsOwnLine rows n e
own_line h done rows e n (no_block is) place f has = absurd (let none : slice_get (own_in []) e
    ≡ Some true = subst (λ (zs : List Sentence). slice_get (own_in zs) e ≡ Some true) is has in cc)
own_line h done rows zero n (single m q ts rest is more) place f has =
    let g : AreFaultlessAfter (header_then h done) (Element m q ts ∷ rest) =
    subst (AreFaultlessAfter (header_then h done)) is f in
    let line = element_line h done m q ts g.0 g.1 in
    let number : m ≡ length done = line.number in
    let same : m ≡ n = omega arith in
    record {
      state = q;
      targets = ts;
      has = ap (λ (zs : List Sentence). slice_get zs 0) is ∙ ap (λ (i : ℕ). Some (Element i q ts)) same;
    }
own_line h done rows (suc e) n (single m q ts rest is more) place f has =
    let g : AreFaultlessAfter (header_then h done) (Element m q ts ∷ rest) =
    subst (AreFaultlessAfter (header_then h done)) is f in
    let made = length_more done (Element m q ts) in
    let behind = own_line h (done ++ Element m q ts ∷ []) rest e n more (omega arith) g.2
    (subst (λ (zs : List Sentence). slice_get (own_in zs) (suc e) ≡ Some true) is has) in
    record {
      state = behind.state;
      targets = behind.targets;
      has = ap (λ (zs : List Sentence). slice_get zs (suc e)) is ∙ behind.has;
    }
own_line h done rows e n (group b k q sides rest count is more) place f has =
    let x : Sentence = Column b k q in
    let at_x : slice_get (own_in (x ∷ (row_lines sides ++ rest))) e ≡ Some true =
    subst (λ (zs : List Sentence). slice_get (own_in zs) e ≡ Some true) is has in
    let marked : slice_get (replicate k false ++ false ∷ own_in rest) e ≡ Some true =
    ap (λ (bs : List Bool). slice_get (replicate k false ++ false ∷ bs) e) (sym (own_rows sides rest)) ∙ at_x in
    elim (cases_lt k e) [
      | inr early ↦ absurd (not_own k e (own_in rest) early marked)
      | inl late ↦
          (let i = e - suc k in
          let at_i : e ≡ suc (k + i) = omega (arith, late) in
          let g : AreFaultlessAfter (header_then h done) (x ∷ (row_lines sides ++ rest)) =
          subst (AreFaultlessAfter (header_then h done)) is f in
          let made = length_more done x in
          let lines = length-append (done ++ x ∷ []) (row_lines sides) in
          let rows_count = length_rows sides in
          let behind_f = first_after (header_then h (done ++ x ∷ [])) (row_lines sides) rest g.2 in
          let marked_i : slice_get (own_in rest) i ≡ Some true = sym (own_behind k i (own_in rest))
          ∙ ap (λ (m : ℕ). slice_get (replicate k false ++ false ∷ own_in rest) m) (sym at_i) ∙ marked in
          let behind = own_line h ((done ++ x ∷ []) ++ row_lines sides) rest i n more (omega arith) behind_f marked_i in
          record {
            state = behind.state;
            targets = behind.targets;
            has = ap (λ (zs : List Sentence). slice_get zs e) is ∙ ap
                (λ (m : ℕ). slice_get (x ∷ (row_lines sides ++ rest)) m) at_i
                ∙ get_behind (row_lines sides) rest i (k + i) (omega arith) ∙ behind.has;
          })
    ]

line_own : (h : Header) (done rows : List Sentence) (e n q : ℕ) (ts : List (Option Line)) → Blocks rows
    → AreFaultlessAfter (header_then h done) rows → slice_get rows e ≡ Some (Element n q ts)
    → slice_get (own_in rows) e ≡ Some true
line_own h done rows e n q ts (no_block is) f has = absurd (let none : slice_get [] e
    ≡ Some (Element n q ts) = subst (λ (zs : List Sentence). slice_get zs e ≡ Some (Element n q ts)) is has in cc)
line_own h done rows zero n q ts (single m p us rest is more) f has =
    ap (λ (zs : List Sentence). slice_get (own_in zs) 0) is
line_own h done rows (suc e) n q ts (single m p us rest is more) f has =
    let g : AreFaultlessAfter (header_then h done) (Element m p us ∷ rest) =
    subst (AreFaultlessAfter (header_then h done)) is f in
    ap (λ (zs : List Sentence). slice_get (own_in zs) (suc e)) is
    ∙ line_own h (done ++ Element m p us ∷ []) rest e n q ts more g.2
    (subst (λ (zs : List Sentence). slice_get zs (suc e) ≡ Some (Element n q ts)) is has)
line_own h done rows zero n q ts (group b k p sides rest count is more) f has =
    absurd (no_column b k p n q ts (subst (λ (zs : List Sentence). slice_get zs 0 ≡ Some (Element n q ts)) is has))
line_own h done rows (suc e) n q ts (group b k p sides rest count is more) f has =
    let x : Sentence = Column b k p in
    let at_e : slice_get (row_lines sides ++ rest) e ≡ Some (Element n q ts) =
    subst (λ (zs : List Sentence). slice_get zs (suc e) ≡ Some (Element n q ts)) is has in
    elim (cases_lt e k) [
      | inl early ↦ absurd (rows_not_own sides rest e n q ts (omega (arith, early)) at_e)
      | inr late ↦
          (let i = e - k in
          let at_i : e ≡ k + i = omega (arith, late) in
          let g : AreFaultlessAfter (header_then h done) (x ∷ (row_lines sides ++ rest)) =
          subst (AreFaultlessAfter (header_then h done)) is f in
          let rows_count = length_rows sides in
          let behind_f = first_after (header_then h (done ++ x ∷ [])) (row_lines sides) rest g.2 in
          let at_rest : slice_get rest i ≡ Some (Element n q ts) =
          sym (get_behind (row_lines sides) rest i e (omega arith)) ∙ at_e in
          let behind = line_own h ((done ++ x ∷ []) ++ row_lines sides) rest i n q ts more behind_f at_rest in
          ap (λ (zs : List Sentence). slice_get (own_in zs) (suc e)) is
          ∙ ap (λ (bs : List Bool). slice_get (replicate k false ++ false ∷ bs) (suc e)) (own_rows sides rest)
          ∙ ap (λ (m : ℕ). slice_get (replicate k false ++ false ∷ own_in rest) (suc m)) at_i
          ∙ own_behind k i (own_in rest) ∙ behind)
    ]

-- ---- what is made of these wires and bars

-- it is what the lines say
pub made_said : (h : Header) (rows : List Sentence) (wires : List Wire) (states : List ℕ) (s : Spelling)
    → wires ≡ wires_after 6 rows → states ≡ bars_in rows → AreSame (spelling_by h wires states) s
    → AreSame (said_by h rows) s
made_said h rows wires states s wires_are states_are same =
    subst (λ (qs : List ℕ). AreSame (spelling_by h (wires_after 6 rows) qs) s) states_are
    (subst (λ (ws : List Wire). AreSame (spelling_by h ws states) s) wires_are same)

column_moves : (c d : Circuit) (states : List ℕ) (e k : ℕ) → c.tables ≡ d.tables
    → ((from : Line) → target c.wires from ≡ target d.wires from) → IsColumnAt c states e k → IsColumnAt d states e k
column_moves c d states e k tables targets is =
    record {
      some = is.some;
      column = record {
        rotaries = λ r low. ap (λ (ts : List Table). slice_get ts (e + r)) (sym tables) ∙ is.column.rotaries r low;
        wired = λ from to inner. sym (targets from) ∙ is.column.wired from to inner;
      };
      loose = sym (targets (line_at (e + k) east)) ∙ is.loose;
      upright = is.upright;
    }

module _ (h : Header) (rows : List Sentence) (s : Spelling) (own : List Bool) (whole : AreWhole (header_then h rows))
    (same : AreSame (said_by h rows) s) (own_are : own ≡ own_in rows) where
  states_are : s.config.states ≡ bars_in rows
  states_are = ap (λ (c : Config). c.states) (sym same.config)

  same_tables : (circuit_of s).tables ≡ (circuit_of (said_by h rows)).tables
  same_tables = ap (λ (m : ℕ). replicate m rotary) (sym same.elements)

  here : (e k : ℕ) → IsColumnAt (circuit_of s) (bars_in rows) e k
      → IsColumnAt (circuit_of (said_by h rows)) (bars_in rows) e k
  here e k column = column_moves (circuit_of s) (circuit_of (said_by h rows)) (bars_in rows) e k same_tables
      (λ from. sym (same.targets from)) column

  there : (e k : ℕ) → IsColumnAt (circuit_of (said_by h rows)) (bars_in rows) e k
      → IsColumnAt (circuit_of s) (bars_in rows) e k
  there e k column = column_moves (circuit_of (said_by h rows)) (circuit_of s) (bars_in rows) e k (sym same_tables)
      same.targets column

  to_out : (e : ℕ) → h.version ≡ Two → IsOwnColumn (own_in rows) (circuit_of s) (bars_in rows) e
      → IsSpelledOut (header_then h rows) e
  to_out e second own =
      let line = own_line h [] rows e e (whole_blocks h rows whole) (omega arith) whole.faultless.2.2.2.2.2.2
      own.has_line in
      let place : header_lines + e ≡ suc (suc (suc (suc (suc (suc e))))) = omega arith in
      record {
        second = second;
        state = line.state;
        targets = line.targets;
        has_line = ap (λ (m : ℕ). slice_get (header_then h rows) m) place ∙ line.has;
        column = (own.column.0, here e own.column.0 own.column.1);
      }

  from_out : (e : ℕ) → IsSpelledOut (header_then h rows) e → IsOwnColumn (own_in rows) (circuit_of s) (bars_in rows) e
  from_out e out =
      let place : header_lines + e ≡ suc (suc (suc (suc (suc (suc e))))) = omega arith in
      let has : slice_get rows e ≡ Some (Element e out.state out.targets) =
      ap (λ (m : ℕ). slice_get (header_then h rows) m) (sym place) ∙ out.has_line in
      record {
        has_line = line_own h [] rows e e out.state out.targets (whole_blocks h rows whole) whole.faultless.2.2.2.2.2.2
            has;
        column = (out.column.0, there e out.column.0 out.column.1);
      }

  -- what is said of the marks and the states that were read, of those that the lines say
  at_rows : (P : List Bool → List ℕ → Type 0) → P own s.config.states → P (own_in rows) (bars_in rows)
  at_rows P holds = subst (λ (bs : List Bool). P bs (bars_in rows)) own_are (subst (P own) states_are holds)

  pub first_out : (e line : ℕ) → h.version ≡ Two → IsLeast (IsOwnColumn own (circuit_of s) s.config.states) e
      → line ≡ e + 7 → IsFirstSpelledOut (lines_text (header_then h rows)) line
  first_out e line second least counted =
      let is = at_rows (λ bs qs. IsLeast (IsOwnColumn bs (circuit_of s) qs) e) least in
      record {
        lines = header_then h rows;
        begins = refl;
        whole = whole;
        element = e;
        first = record { holds = to_out e second is.holds; least = λ m low out. is.least m low (from_out m out) };
        counted = omega arith;
      }

  none_out : ((e : ℕ) → h.version ≡ Two → IsOwnColumn own (circuit_of s) s.config.states e → ⊥) → (e : ℕ)
      → IsSpelledOut (header_then h rows) e → ⊥
  none_out none e out =
      let is = at_rows (λ bs qs. (f : ℕ) → h.version ≡ Two → IsOwnColumn bs (circuit_of s) qs f → ⊥) none in
      is e out.second (from_out e out)

  -- it is spelled by what the lines say
  pub made_spelled : ((e : ℕ) → h.version ≡ Two → IsOwnColumn own (circuit_of s) s.config.states e → ⊥)
      → Spelled h.version s (lines_text (header_then h rows))
  made_spelled none = spelled-alike h.version (said_by h rows) s (lines_text (header_then h rows)) same
      (whole-said h rows whole (none_out none))

-- how many states and marks there are
count_own : (h : Header) (done rows : List Sentence) → Blocks rows → AreFaultlessAfter (header_then h done) rows
    → (length (own_in rows) ≡ length rows) × (length (bars_in rows) ≡ length rows)
count_own h done rows (no_block is) f = subst (λ (zs : List Sentence). (length (own_in zs) ≡ length zs)
    × (length (bars_in zs) ≡ length zs)) (sym is) (refl, refl)
count_own h done rows (single m q ts rest is more) f =
    let g : AreFaultlessAfter (header_then h done) (Element m q ts ∷ rest) =
    subst (AreFaultlessAfter (header_then h done)) is f in
    let behind = count_own h (done ++ Element m q ts ∷ []) rest more g.2 in
    subst (λ (zs : List Sentence). (length (own_in zs) ≡ length zs) × (length (bars_in zs) ≡ length zs)) (sym is)
    (ap suc behind.0, ap suc behind.1)
count_own h done rows (group b k q sides rest count is more) f =
    let x : Sentence = Column b k q in
    let g : AreFaultlessAfter (header_then h done) (x ∷ (row_lines sides ++ rest)) =
    subst (AreFaultlessAfter (header_then h done)) is f in
    let behind = count_own h ((done ++ x ∷ []) ++ row_lines sides) rest more
    (first_after (header_then h (done ++ x ∷ [])) (row_lines sides) rest g.2) in
    let marks = length-append (replicate k false) (false ∷ own_in (row_lines sides ++ rest)) in
    let bars = length-append (replicate k vertical) (q ∷ bars_in (row_lines sides ++ rest)) in
    let marks_k = length-replicate k false in
    let bars_k = length-replicate k vertical in
    let own_rest = ap length (own_rows sides rest) in
    let states_rest = ap length (states_rows sides rest) in
    let lines = length-append (row_lines sides) rest in
    let rows_count = length_rows sides in
    let own_count : length (own_in rest) ≡ length rest = behind.0 in
    let states_count : length (bars_in rest) ≡ length rest = behind.1 in
    subst (λ (zs : List Sentence). (length (own_in zs) ≡ length zs) × (length (bars_in zs) ≡ length zs)) (sym is)
    (omega arith, omega arith)
  where
    states_rows : (sides : List (Option Line × Option Line)) (rest : List Sentence)
        → bars_in (row_lines sides ++ rest) ≡ bars_in rest
    states_rows [] rest = refl
    states_rows (p ∷ ps) rest = states_rows ps rest

pub counts : (h : Header) (lines left : ℕ) (states : List ℕ) (own : List Bool) (drawn : EndList) (fed : List Bool)
    → IsWholeDraft h lines left states own drawn fed → (length own ≡ h.count) × (length states ≡ h.count)
counts h lines left states own drawn fed is =
    let both = count_own h [] is.rows (whole_blocks h is.rows is.whole) is.whole.faultless.2.2.2.2.2.2 in
    let complete : length (header_then h is.rows) ≡ header_lines + h.count = is.whole.complete in
    let rows_count : length is.rows ≡ h.count = omega arith in
    (ap length is.holds.own_are ∙ both.0 ∙ rows_count, ap length is.holds.states_are ∙ both.1 ∙ rows_count)
