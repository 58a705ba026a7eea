-- Whole lines of which none has a fault, and in which no column is spelled out, are those of a configuration.
use Rattle.std.specs.Prelude.{◌≡◌, ℕ, ◌+◌, ◌-◌, ◌<◌, ◌≤◌, min, ◌==◌, nat_lt, Bool, false, List, [], ◌∷◌, ◌++◌, length}
use Rattle.std.specs.Prelude.{Option, Some, None, is_some, if◌then◌else◌, refl}
use Rattle.std.proofs.Common.{zero, suc, arith, sym, ap, subst, ◌∙◌, inl, inr}
use Rattle.std.proofs.lemmas.Bool.{cases_Bool}
use Rattle.std.proofs.lemmas.Bool.Decides.{nat_tests, eqb_tells}
use Rattle.std.proofs.lemmas.List.{length-append}
use Rattle.bn_circuits.specs.Circuits.{same_line, source}
use Rattle.bn_circuits.specs.declared.line.Line.{Line}
use Rattle.bn_circuits.specs.declared.line.Wire.{Wire}
use Rattle.bn_circuits.specs.declared.place.Place.{Place}
use Rattle.bn_netlist_laws.specs.Sentences.{AreNameable}
use Rattle.bn_netlist_laws.specs.Faults.{is_left_by}
use Rattle.bn_netlist_laws.proofs.WireLemmas.{Each}
use Rattle.bn_netlist_laws.specs.Columns.{inner_wires}
use Rattle.bn_netlist_laws.specs.Sentences.{Sentence, Title, Count, Start, End, Steps, At, Element, Column, Row}
use Rattle.bn_netlist_laws.specs.Spelling.{header_then}
use Rattle.bn_netlist_laws.specs.Faults.{Fault, header_lines, count_in, next_number, wires_after, rows_left}
use Rattle.bn_netlist_laws.specs.Faults.{outputs_fault, some_wire, inner_fault, fault_of, kind_of, IsOfVersion, IsNext}
use Rattle.bn_netlist_laws.specs.Faults.{AreFaultlessAfter, AreFaultless}
use Rattle.bn_netlist_laws.specs.declared.version.Version.{Version}
use Rattle.bn_netlist_laws.specs.declared.version.Version.TheVariants.{One, Two}
use Rattle.bn_netlist_laws.specs.declared.header.Header.{Header}
use Rattle.bn_netlist_laws.proofs.LineLemmas.{rows_left-append, length_more}
use Rattle.bn_netlist_laws.proofs.TextLemmas.{first_after}

-- ---- the header

is_title : (x : Sentence) → kind_of x ≡ 0 → (v : Version) × (x ≡ Title v)
is_title (Title v) kind = (v, refl)
is_title (Count c) kind = absurd (omega arith)
is_title (Start l) kind = absurd (omega arith)
is_title (End l) kind = absurd (omega arith)
is_title (Steps t) kind = absurd (omega arith)
is_title (At p) kind = absurd (omega arith)
is_title (Element n q xs) kind = absurd (omega arith)
is_title (Column e k q) kind = absurd (omega arith)
is_title (Row x y) kind = absurd (omega arith)

is_count : (x : Sentence) → kind_of x ≡ 1 → (c : ℕ) × (x ≡ Count c)
is_count (Title v) kind = absurd (omega arith)
is_count (Count c) kind = (c, refl)
is_count (Start l) kind = absurd (omega arith)
is_count (End l) kind = absurd (omega arith)
is_count (Steps t) kind = absurd (omega arith)
is_count (At p) kind = absurd (omega arith)
is_count (Element n q xs) kind = absurd (omega arith)
is_count (Column e k q) kind = absurd (omega arith)
is_count (Row x y) kind = absurd (omega arith)

is_start : (x : Sentence) → kind_of x ≡ 2 → (l : Line) × (x ≡ Start l)
is_start (Title v) kind = absurd (omega arith)
is_start (Count c) kind = absurd (omega arith)
is_start (Start l) kind = (l, refl)
is_start (End l) kind = absurd (omega arith)
is_start (Steps t) kind = absurd (omega arith)
is_start (At p) kind = absurd (omega arith)
is_start (Element n q xs) kind = absurd (omega arith)
is_start (Column e k q) kind = absurd (omega arith)
is_start (Row x y) kind = absurd (omega arith)

is_end : (x : Sentence) → kind_of x ≡ 3 → (l : Line) × (x ≡ End l)
is_end (Title v) kind = absurd (omega arith)
is_end (Count c) kind = absurd (omega arith)
is_end (Start l) kind = absurd (omega arith)
is_end (End l) kind = (l, refl)
is_end (Steps t) kind = absurd (omega arith)
is_end (At p) kind = absurd (omega arith)
is_end (Element n q xs) kind = absurd (omega arith)
is_end (Column e k q) kind = absurd (omega arith)
is_end (Row x y) kind = absurd (omega arith)

is_steps : (x : Sentence) → kind_of x ≡ 4 → (t : ℕ) × (x ≡ Steps t)
is_steps (Title v) kind = absurd (omega arith)
is_steps (Count c) kind = absurd (omega arith)
is_steps (Start l) kind = absurd (omega arith)
is_steps (End l) kind = absurd (omega arith)
is_steps (Steps t) kind = (t, refl)
is_steps (At p) kind = absurd (omega arith)
is_steps (Element n q xs) kind = absurd (omega arith)
is_steps (Column e k q) kind = absurd (omega arith)
is_steps (Row x y) kind = absurd (omega arith)

is_place : (x : Sentence) → kind_of x ≡ 5 → (p : Place) × (x ≡ At p)
is_place (Title v) kind = absurd (omega arith)
is_place (Count c) kind = absurd (omega arith)
is_place (Start l) kind = absurd (omega arith)
is_place (End l) kind = absurd (omega arith)
is_place (Steps t) kind = absurd (omega arith)
is_place (At p) kind = (p, refl)
is_place (Element n q xs) kind = absurd (omega arith)
is_place (Column e k q) kind = absurd (omega arith)
is_place (Row x y) kind = absurd (omega arith)

-- six lines without a fault, or more, begin with a header
pub has_header : (before : List Sentence) → AreFaultless before → header_lines + count_in before ≡ length before
    → (h : Header) × (rows : List Sentence) × (before ≡ header_then h rows)
has_header [] f long = absurd (omega arith)
has_header (a ∷ []) f long = absurd (omega arith)
has_header (a ∷ b ∷ []) f long = absurd (omega arith)
has_header (a ∷ b ∷ c ∷ []) f long = absurd (omega arith)
has_header (a ∷ b ∷ c ∷ d ∷ []) f long = absurd (omega arith)
has_header (a ∷ b ∷ c ∷ d ∷ e ∷ []) f long = absurd (omega arith)
has_header (a ∷ b ∷ c ∷ d ∷ e ∷ p ∷ rows) f long =
    let title = is_title a f.0.kind in
    let f1 : AreFaultless (Title title.0 ∷ b ∷ c ∷ d ∷ e ∷ p ∷ rows) =
    subst (λ (z : Sentence). AreFaultless (z ∷ b ∷ c ∷ d ∷ e ∷ p ∷ rows)) title.1 f in
    let count = is_count b f1.2.0.kind in
    let f2 : AreFaultless (Title title.0 ∷ Count count.0 ∷ c ∷ d ∷ e ∷ p ∷ rows) =
    subst (λ (z : Sentence). AreFaultless (Title title.0 ∷ z ∷ c ∷ d ∷ e ∷ p ∷ rows)) count.1 f1 in
    let start = is_start c f2.2.2.0.kind in
    let f3 : AreFaultless (Title title.0 ∷ Count count.0 ∷ Start start.0 ∷ d ∷ e ∷ p ∷ rows) =
    subst (λ (z : Sentence). AreFaultless (Title title.0 ∷ Count count.0 ∷ z ∷ d ∷ e ∷ p ∷ rows)) start.1 f2 in
    let end = is_end d f3.2.2.2.0.kind in
    let f4 : AreFaultless (Title title.0 ∷ Count count.0 ∷ Start start.0 ∷ End end.0 ∷ e ∷ p ∷ rows) =
    subst (λ (z : Sentence). AreFaultless (Title title.0 ∷ Count count.0 ∷ Start start.0 ∷ z ∷ e ∷ p ∷ rows)) end.1
    f3 in
    let steps = is_steps e f4.2.2.2.2.0.kind in
    let f5 : AreFaultless (Title title.0 ∷ Count count.0 ∷ Start start.0 ∷ End end.0 ∷ Steps steps.0 ∷ p ∷ rows) =
    subst (λ (z : Sentence). AreFaultless (Title title.0 ∷ Count count.0 ∷ Start start.0 ∷ End end.0 ∷ z ∷ p
    ∷ rows)) steps.1 f4 in
    let place = is_place p f5.2.2.2.2.2.0.kind in
    let h : Header = record {
      version = title.0;
      count = count.0;
      start = start.0;
      end = end.0;
      steps = steps.0;
      place = place.0;
    } in
    (h, rows, (λ i. title.1 i ∷ count.1 i ∷ start.1 i ∷ end.1 i ∷ steps.1 i ∷ place.1 i ∷ rows))

-- ---- entries as blocks of lines

-- the lines of some rows
abbrev pub row_lines : List (Option Line × Option Line) → List Sentence
row_lines [] = []
row_lines (p ∷ ps) = Row p.0 p.1 ∷ row_lines ps

-- the lines are those of elements, and of columns with all their rows
pub data Blocks : List Sentence → Type 0 where
  no_block : {rows : List Sentence} → rows ≡ [] → Blocks rows
  single : {rows : List Sentence} (n q : ℕ) (ts : List (Option Line)) (rest : List Sentence)
      → rows ≡ Element n q ts ∷ rest → Blocks rest → Blocks rows
  group : {rows : List Sentence} (e k q : ℕ) (sides : List (Option Line × Option Line)) (rest : List Sentence)
      → length sides ≡ k → rows ≡ Column e k q ∷ (row_lines sides ++ rest) → Blocks rest → Blocks rows

behind_header : (h : Header) (done : List Sentence) (x : Sentence) → IsNext (header_then h done) x
    → kind_of x ≡ 6 + min (rows_left 0 done) 1
behind_header h done x next = let kind : kind_of x ≡ min (length (header_then h done)) header_lines
    + min (rows_left 0 done) 1 = next.kind in omega arith

-- so many lines of rows
record AreRows (m : ℕ) (rows : List Sentence) : Type 0 where
  sides : List (Option Line × Option Line)
  rest : List Sentence
  count : length sides ≡ m
  are : rows ≡ row_lines sides ++ rest

take_rows : (h : Header) (m : ℕ) (done rows : List Sentence) → rows_left 0 done ≡ m → m ≤ length rows
    → AreFaultlessAfter (header_then h done) rows → AreRows m rows
take_rows h zero done rows left long f = record { sides = []; rest = rows; count = refl; are = refl }
take_rows h (suc m) done [] left long f = absurd (omega arith)
take_rows h (suc m) done (Title v ∷ rows) left long f = absurd
    (let kind = behind_header h done (Title v) f.0 in omega arith)
take_rows h (suc m) done (Count c ∷ rows) left long f = absurd
    (let kind = behind_header h done (Count c) f.0 in omega arith)
take_rows h (suc m) done (Start l ∷ rows) left long f = absurd
    (let kind = behind_header h done (Start l) f.0 in omega arith)
take_rows h (suc m) done (End l ∷ rows) left long f = absurd
    (let kind = behind_header h done (End l) f.0 in omega arith)
take_rows h (suc m) done (Steps t ∷ rows) left long f = absurd
    (let kind = behind_header h done (Steps t) f.0 in omega arith)
take_rows h (suc m) done (At p ∷ rows) left long f = absurd (let kind = behind_header h done (At p) f.0 in omega arith)
take_rows h (suc m) done (Element n q xs ∷ rows) left long f =
    absurd (let kind = behind_header h done (Element n q xs) f.0 in omega arith)
take_rows h (suc m) done (Column e k q ∷ rows) left long f =
    absurd (let kind = behind_header h done (Column e k q) f.0 in omega arith)
take_rows h (suc m) done (Row x y ∷ rows) left long f =
    let left_more : rows_left 0 (done ++ Row x y ∷ []) ≡ m = rows_left-append 0 done (Row x y ∷ []) ∙ omega arith in
    let more = take_rows h m (done ++ Row x y ∷ []) rows left_more (omega arith) f.2 in
    record {
      sides = (x, y) ∷ more.sides;
      rest = more.rest;
      count = ap suc more.count;
      are = ap (λ (zs : List Sentence). Row x y ∷ zs) more.are;
    }

-- ---- what a line without a fault says

number_fault : (n k : ℕ) (o : Option Fault) (f : Fault) → (if n == k then o else Some f) ≡ None → (n ≡ k) × (o ≡ None)
number_fault n k o f none =
    elim (eqb_tells n k) [
      | inl same ↦ (same.1, rw same.0 at none)
      | inr other ↦ absurd (let found = rw other.0 at none in cc)
    ]

pub record IsElementLine (h : Header) (done : List Sentence) (n q : ℕ) (xs : List (Option Line)) : Type 0 where
  pub number : n ≡ length done
  pub there : n < h.count
  pub state : q < 2
  pub four : length xs ≡ 4
  pub nameable : AreNameable xs
  pub faultless : outputs_fault (header_then h done) (wires_after 6 done) n 0 xs ≡ None

pub element_line : (h : Header) (done : List Sentence) (n q : ℕ) (xs : List (Option Line))
    → IsNext (header_then h done) (Element n q xs) → fault_of (header_then h done) (Element n q xs) ≡ None
    → IsElementLine h done n q xs
element_line h done n q xs next none =
    let both = number_fault n (next_number (length (header_then h done)))
    (outputs_fault (header_then h done) (wires_after 6 done) n 0 xs) _ none in
    let number : n ≡ length done = omega (arith, both.0) in
    let room : length (header_then h done) < header_lines + h.count = next.room in
    record {
      number = number;
      there = omega arith;
      state = next.sayable.1;
      four = next.sayable.2;
      nameable = next.sayable.3;
      faultless = both.1;
    }

-- no wire of the list passes the test
each_false : (test : Wire → Bool) (ws : List Wire) → some_wire test ws ≡ false → Each (λ w. test w ≡ false) ws
each_false test [] none = tt
each_false test (w ∷ ws) none =
    elim (cases_Bool (test w)) [
      | inl is ↦ absurd (let found = rw is at none in cc)
      | inr is ↦ (is, each_false test ws (rw is at none))
    ]

pub record IsColumnLine (h : Header) (done : List Sentence) (e k q : ℕ) : Type 0 where
  pub number : e ≡ length done
  pub some : 0 < k
  pub state : q < 2
  pub second : h.version ≡ Two
  pub there : e + k < h.count
  pub not_end : Each (λ w. same_line h.end w.from ≡ false) (inner_wires e k)
  pub not_left : Each (λ w. is_left_by h.place w.from ≡ false) (inner_wires e k)
  pub not_start : Each (λ w. same_line h.start w.to ≡ false) (inner_wires e k)
  pub free : Each (λ w. is_some (source (wires_after 6 done) w.to) ≡ false) (inner_wires e k)

second_version : (v : Version) (e k q : ℕ) → IsOfVersion v (Column e k q) → v ≡ Two
second_version One e k q is = absurd is
second_version Two e k q is = refl

pub column_line : (h : Header) (done : List Sentence) (e k q : ℕ) → IsNext (header_then h done) (Column e k q)
    → fault_of (header_then h done) (Column e k q) ≡ None → IsColumnLine h done e k q
column_line h done e k q next none =
    let both = number_fault e (next_number (length (header_then h done)))
    (inner_fault (header_then h done) (wires_after 6 done) (e + k) (inner_wires e k)) _ none in
    let number : e ≡ length done = omega (arith, both.0) in
    let n0 = both.1 in
    elim (cases_Bool (nat_lt (e + k) h.count)) [
      | inr outside ↦ absurd (let found = rw outside at n0 in cc)
      | inl inside ↦ (let n1 = rw inside at n0 in elim (cases_Bool
          (some_wire (λ w. same_line h.end w.from) (inner_wires e k))) [
            | inl end ↦ absurd (let found = rw end at n1 in cc)
            | inr not_end ↦ (let n2 = rw not_end at n1 in elim (cases_Bool
                (some_wire (λ w. is_left_by h.place w.from) (inner_wires e k))) [
                  | inl left ↦ absurd (let found = rw left at n2 in cc)
                  | inr not_left ↦ (let n3 = rw not_left at n2 in elim (cases_Bool
                      (some_wire (λ w. same_line h.start w.to) (inner_wires e k))) [
                        | inl start ↦ absurd (let found = rw start at n3 in cc)
                        | inr not_start ↦ (let n4 = rw not_start at n3 in elim
                            (cases_Bool (some_wire (λ w. is_some (source (wires_after 6 done) w.to))
                            (inner_wires e k))) [
                              | inl fed ↦ absurd (let found = rw fed at n4 in cc)
                              | inr unfed ↦ record {
                                number = number;
                                some = next.sayable.1;
                                state = next.sayable.3;
                                second = second_version h.version e k q next.version;
                                there = grind (arith, nat_tests);
                                not_end = each_false (λ w. same_line h.end w.from) (inner_wires e k) not_end;
                                not_left = each_false (λ w. is_left_by h.place w.from) (inner_wires e k) not_left;
                                not_start = each_false (λ w. same_line h.start w.to) (inner_wires e k) not_start;
                                free = each_false (λ w. is_some (source (wires_after 6 done) w.to)) (inner_wires e k)
                                    unfed;
                              }
                            ])
                      ])
                ])
          ])
    ]

-- ---- blocks

pub blocks : (h : Header) (fuel : ℕ) (done rows : List Sentence) → length rows < fuel → rows_left 0 done ≡ 0
    → length done + length rows ≡ h.count → AreFaultlessAfter (header_then h done) rows → Blocks rows
blocks h zero done rows short left count f = absurd (omega arith)
blocks h (suc fuel) done [] short left count f = no_block refl
blocks h (suc fuel) done (Title v ∷ rows) short left count f =
    absurd (let kind = behind_header h done (Title v) f.0 in omega arith)
blocks h (suc fuel) done (Count c ∷ rows) short left count f =
    absurd (let kind = behind_header h done (Count c) f.0 in omega arith)
blocks h (suc fuel) done (Start l ∷ rows) short left count f =
    absurd (let kind = behind_header h done (Start l) f.0 in omega arith)
blocks h (suc fuel) done (End l ∷ rows) short left count f =
    absurd (let kind = behind_header h done (End l) f.0 in omega arith)
blocks h (suc fuel) done (Steps t ∷ rows) short left count f =
    absurd (let kind = behind_header h done (Steps t) f.0 in omega arith)
blocks h (suc fuel) done (At p ∷ rows) short left count f = absurd
    (let kind = behind_header h done (At p) f.0 in omega arith)
blocks h (suc fuel) done (Row x y ∷ rows) short left count f =
    absurd (let kind = behind_header h done (Row x y) f.0 in omega arith)
blocks h (suc fuel) done (Element n q ts ∷ rows) short left count f =
    let left_more : rows_left 0 (done ++ Element n q ts ∷ []) ≡ 0 =
    rows_left-append 0 done (Element n q ts ∷ []) ∙ left in
    let made = length_more done (Element n q ts) in
    single n q ts rows refl (blocks h fuel (done ++ Element n q ts ∷ []) rows (omega arith) left_more (omega arith) f.2)
blocks h (suc fuel) done (Column e k q ∷ rows) short left count f =
    let line = column_line h done e k q f.0 f.1 in
    let number : e ≡ length done = line.number in
    let there : e + k < h.count = line.there in
    let left_more : rows_left 0 (done ++ Column e k q ∷ []) ≡ k = rows_left-append 0 done (Column e k q ∷ []) in
    let made = length_more done (Column e k q) in
    let taken = take_rows h k (done ++ Column e k q ∷ []) rows left_more (omega arith) f.2 in
    let whole : AreFaultlessAfter (header_then h (done ++ Column e k q ∷ [])) (row_lines taken.sides ++ taken.rest) =
    subst (AreFaultlessAfter (header_then h (done ++ Column e k q ∷ []))) taken.are f.2 in
    let behind : AreFaultlessAfter (header_then h ((done ++ Column e k q ∷ []) ++ row_lines taken.sides)) taken.rest =
    first_after (header_then h (done ++ Column e k q ∷ [])) (row_lines taken.sides) taken.rest whole in
    let lines = length_rows taken.sides in
    let sides : length taken.sides ≡ k = taken.count in
    let all : length rows ≡ length (row_lines taken.sides) + length taken.rest =
    ap length taken.are ∙ length-append (row_lines taken.sides) taken.rest in
    let long = length-append (done ++ Column e k q ∷ []) (row_lines taken.sides) in
    let none_left : rows_left 0 ((done ++ Column e k q ∷ []) ++ row_lines taken.sides) ≡ 0 =
    rows_left-append 0 (done ++ Column e k q ∷ []) (row_lines taken.sides)
    ∙ ap (λ (m : ℕ). rows_left m (row_lines taken.sides)) (left_more ∙ sym sides) ∙ rows_all taken.sides in
    group e k q taken.sides taken.rest sides (ap (λ (zs : List Sentence). Column e k q ∷ zs) taken.are)
    (blocks h fuel ((done ++ Column e k q ∷ []) ++ row_lines taken.sides) taken.rest (omega arith) none_left
    (omega arith) behind)
  where
    length_rows : (sides : List (Option Line × Option Line)) → length (row_lines sides) ≡ length sides
    length_rows [] = refl
    length_rows (p ∷ ps) = ap suc (length_rows ps)

    rows_all : (sides : List (Option Line × Option Line)) → rows_left (length sides) (row_lines sides) ≡ 0
    rows_all [] = refl
    rows_all (p ∷ ps) = let same : suc (length ps) - 1 ≡ length ps =
        omega arith in ap (λ (m : ℕ). rows_left m (row_lines ps)) same ∙ rows_all ps
