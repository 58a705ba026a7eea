-- The wires of whole lines fit one after another, and are those of a circuit.
use Rattle.std.specs.Prelude.{◌≡◌, ◌≢◌, ℕ, ◌+◌, ◌-◌, ◌<◌, ◌≤◌, nat_lt, false, List, [], ◌∷◌, ◌++◌, length, Option, Some}
use Rattle.std.specs.Prelude.{None, is_some, refl}
use Rattle.std.proofs.Common.{suc, arith, sym, ap, subst, ◌∙◌, inl, inr}
use Rattle.std.proofs.lemmas.Bool.{cases_Bool}
use Rattle.std.proofs.lemmas.Bool.Decides.{nat_tests}
use Rattle.std.proofs.lemmas.List.{append_assoc, append-nil, length-append}
use Rattle.bn_circuits.specs.Circuits.{same_line, target, source}
use Rattle.bn_circuits.specs.declared.line.Line.{Line}
use Rattle.bn_circuits.specs.declared.line.Wire.{Wire}
use Rattle.bn_circuits.proofs.WireListLemmas.{line_tells}
use Rattle.bn_element.specs.Rotary.{east}
use Rattle.bn_column.specs.Columns.{IsInner, down, up, under, over, top}
use Rattle.bn_circuits.specs.Circuits.{line_at}
use Rattle.bn_circuits.specs.Wirings.{AreApart}
use Rattle.bn_netlist_laws.specs.Sentences.{AreNameable}
use Rattle.bn_netlist_laws.specs.Faults.{is_left_by, wires_from}
use Rattle.bn_netlist_laws.proofs.WireLemmas.{other_lines, Each, each_append, each_weaker, target-none, source-none}
use Rattle.bn_netlist_laws.proofs.WireLemmas.{wire_within_none}
use Rattle.bn_netlist_laws.specs.Columns.{inner_wires}
use Rattle.bn_netlist_laws.specs.Sentences.{Sentence, Element, Column, Row}
use Rattle.bn_netlist_laws.specs.Spelling.{header_then}
use Rattle.bn_netlist_laws.specs.Faults.{Fault, row_number, wires_after, row_targets, wire_fault, or_else}
use Rattle.bn_netlist_laws.specs.Faults.{outputs_fault, IsNext, AreFaultlessAfter}
use Rattle.bn_netlist_laws.specs.declared.header.Header.{Header}
use Rattle.bn_netlist_laws.proofs.ColumnLemmas.{inner-are}
use Rattle.bn_netlist_laws.proofs.LineLemmas.{wires_after-append, wires_after-more, length_more}
use Rattle.bn_netlist_laws.proofs.SaidLemmas.{inner_each}
use Rattle.bn_netlist_laws.proofs.AdmittedLemmas.{IsClearOf, later_clear, element_clear, IsPast, further, past_clear}
use Rattle.bn_netlist_laws.proofs.AdmittedLemmas.{wires_of_element, inner_low, inner_high}
use Rattle.bn_netlist_laws.proofs.TextLemmas.{first_after}
use Rattle.bn_netlist_laws.proofs.BlockLemmas.{Blocks, no_block, single, group, row_lines, element_line, IsColumnLine}
use Rattle.bn_netlist_laws.proofs.BlockLemmas.{column_line}

-- the wire has no fault after the earlier ones, and its numbers are in range
pub record Fits (h : Header) (earlier : List Wire) (w : Wire) : Type 0 where
  pub to_there : w.to.element < h.count
  pub to_low : w.to.line < 4
  pub from_there : w.from.element < h.count
  pub from_low : w.from.line < 4
  pub not_end : h.end ≢ w.from
  pub not_left : is_left_by h.place w.from ≡ false
  pub not_start : h.start ≢ w.to
  pub free : source earlier w.to ≡ None
  pub unwired : target earlier w.from ≡ None

abbrev pub AllFit : Header → List Wire → List Wire → Type 0
AllFit h earlier [] = Unit {0}
AllFit h earlier (w ∷ ws) = Fits h earlier w × AllFit h (earlier ++ w ∷ []) ws

pub all_fit-append : (h : Header) (earlier xs ys : List Wire) → AllFit h earlier xs → AllFit h (earlier ++ xs) ys
    → AllFit h earlier (xs ++ ys)
all_fit-append h earlier [] ys fx fy = subst (λ (ws : List Wire). AllFit h ws ys) (append-nil earlier) fy
all_fit-append h earlier (x ∷ xs) ys fx fy = (
  fx.0,
  all_fit-append h (earlier ++ x ∷ []) xs ys fx.1 (subst (λ (ws : List Wire). AllFit h ws ys)
      (sym (append_assoc earlier (x ∷ []) xs)) fy),
)

pub all-each : (h : Header) (P : Wire → Type 0) → ((earlier : List Wire) (w : Wire) → Fits h earlier w → P w)
    → (earlier ws : List Wire) → AllFit h earlier ws → Each P ws
all-each h P gives earlier [] fit = tt
all-each h P gives earlier (w ∷ ws) fit = (gives earlier w fit.0, all-each h P gives (earlier ++ w ∷ []) ws fit.1)

-- ---- the wires of outputs

or_else-none : (a b : Option Fault) → or_else a b ≡ None → (a ≡ None) × (b ≡ None)
or_else-none None b h = (refl, h)
or_else-none (Some f) b h = absurd (cc)

pub record Passes (h : Header) (earlier : List Wire) (from to : Line) : Type 0 where
  pub there : to.element < h.count
  pub not_end : h.end ≢ from
  pub not_left : is_left_by h.place from ≡ false
  pub not_start : h.start ≢ to
  pub free : source earlier to ≡ None

pub wire_passes : (h : Header) (rows : List Sentence) (earlier : List Wire) (from to : Line)
    → wire_fault (header_then h rows) earlier from to ≡ None → Passes h earlier from to
wire_passes h rows earlier from to none =
    elim (cases_Bool (nat_lt to.element h.count)) [
      | inr outside ↦ absurd (let found = rw outside at none in cc)
      | inl inside ↦ (let n1 = rw inside at none in elim (cases_Bool (same_line h.end from)) [
        | inl end ↦ absurd (let found = rw end at n1 in cc)
        | inr not_end ↦ (let n2 = rw not_end at n1 in elim (cases_Bool (is_left_by h.place from)) [
          | inl left ↦ absurd (let found = rw left at n2 in cc)
          | inr not_left ↦ (let n3 = rw not_left at n2 in elim (cases_Bool (same_line h.start to)) [
            | inl start ↦ absurd (let found = rw start at n3 in cc)
            | inr not_start ↦ (let n4 = rw not_start at n3 in elim (cases_Bool (is_some (source earlier to))) [
              | inl fed ↦ absurd (let found = rw fed at n4 in cc)
              | inr unfed ↦ record {
                there = grind (arith, nat_tests);
                not_end = other_lines h.end from not_end;
                not_left = not_left;
                not_start = other_lines h.start to not_start;
                free = wire_within_none (source earlier to) unfed;
              }
            ])
          ])
        ])
      ])
    ]

outputs_fit : (h : Header) (rows : List Sentence) (earlier : List Wire) (e o : ℕ) (xs : List (Option Line))
    → outputs_fault (header_then h rows) earlier e o xs ≡ None → AreNameable xs → o + length xs ≤ 4 → e < h.count
    → Each (IsClearOf e o xs) earlier → AllFit h earlier (wires_from e o xs)
outputs_fit h rows earlier e o [] none named four there clear = tt
outputs_fit h rows earlier e o (None ∷ xs) none named four there clear =
    outputs_fit h rows earlier e (suc o) xs none named (omega arith) there clear
outputs_fit h rows earlier e o (Some to ∷ xs) none named four there clear =
    let from : Line = line_at e o in
    let w : Wire = record { from = from; to = to } in
    let parts = or_else-none (wire_fault (header_then h rows) earlier from to)
    (outputs_fault (header_then h rows) (earlier ++ w ∷ []) e (suc o) xs) none in
    let passes = wire_passes h rows earlier from to parts.0 in
    let unwired : target earlier from ≡ None = target-none earlier from
    (each_weaker (IsClearOf e o (Some to ∷ xs)) (λ v. v.from ≢ from) (λ v c. c.0) earlier clear) in
    let low : o < 4 = omega arith in
    let later : Each (IsClearOf e (suc o) xs) (earlier ++ w ∷ []) =
    each_append (IsClearOf e (suc o) xs) earlier (w ∷ []) (each_weaker (IsClearOf e o (Some to ∷ xs))
    (IsClearOf e (suc o) xs) (λ v c. c.1) earlier clear) (later_clear e o (suc o) xs w refl (omega arith), tt)
    in (
      record {
        to_there = passes.there;
        to_low = named.0.1;
        from_there = there;
        from_low = low;
        not_end = passes.not_end;
        not_left = passes.not_left;
        not_start = passes.not_start;
        free = passes.free;
        unwired = unwired;
      },
      outputs_fit h rows (earlier ++ w ∷ []) e (suc o) xs parts.1 named.1 (omega arith) there later,
    )

-- ---- the wires of a column

source-each : (ws : List Wire) (to : Line) → source ws to ≡ None → Each (λ w. w.to ≢ to) ws
source-each [] to none = tt
source-each (w ∷ ws) to none =
    elim (line_tells w.to to) [
      | inl same ↦ absurd (let found = rw same.0 at none in cc)
      | inr other ↦ (other.1, source-each ws to (rw other.0 at none))
    ]

target-each : (ws : List Wire) (from : Line) → target ws from ≡ None → Each (λ w. w.from ≢ from) ws
target-each [] from none = tt
target-each (w ∷ ws) from none =
    elim (line_tells w.from from) [
      | inl same ↦ absurd (let found = rw same.0 at none in cc)
      | inr other ↦ (other.1, target-each ws from (rw other.0 at none))
    ]

source-more : (ws : List Wire) (w : Wire) (to : Line) → source ws to ≡ None → w.to ≢ to
    → source (ws ++ w ∷ []) to ≡ None
source-more ws w to none apart = source-none (ws ++ w ∷ []) to
    (each_append (λ v. v.to ≢ to) ws (w ∷ []) (source-each ws to none) (apart, tt))

target-more : (ws : List Wire) (w : Wire) (from : Line) → target ws from ≡ None → w.from ≢ from
    → target (ws ++ w ∷ []) from ≡ None
target-more ws w from none apart = target-none (ws ++ w ∷ []) from
    (each_append (λ v. v.from ≢ from) ws (w ∷ []) (target-each ws from none) (apart, tt))

each_both : (P Q R : Wire → Type 0) → ((w : Wire) → P w → Q w → R w) → (ws : List Wire) → Each P ws → Each Q ws
    → Each R ws
each_both P Q R gives [] p q = tt
each_both P Q R gives (w ∷ ws) p q = (gives w p.0 q.0, each_both P Q R gives ws p.1 q.1)

fits_more : (h : Header) (earlier : List Wire) (w u : Wire) → Fits h earlier u → (w.to ≢ u.to) → (w.from ≢ u.from)
    → Fits h (earlier ++ w ∷ []) u
fits_more h earlier w u fits to_apart from_apart =
    record {
      to_there = fits.to_there;
      to_low = fits.to_low;
      from_there = fits.from_there;
      from_low = fits.from_low;
      not_end = fits.not_end;
      not_left = fits.not_left;
      not_start = fits.not_start;
      free = source-more earlier w u.to fits.free to_apart;
      unwired = target-more earlier w u.from fits.unwired from_apart;
    }

-- wires that are apart and of which each fits, fit all
all_fit-apart : (h : Header) (earlier ws : List Wire) → AreApart ws → Each (Fits h earlier) ws → AllFit h earlier ws
all_fit-apart h earlier [] apart each = tt
all_fit-apart h earlier (w ∷ ws) apart each =
    let tos : Each (λ u. w.to ≢ u.to) ws = each_weaker (λ u. u.to ≢ w.to) (λ u. w.to ≢ u.to)
    (λ u other same. other (sym same)) ws (source-each ws w.to apart.1) in
    let froms : Each (λ u. w.from ≢ u.from) ws = each_weaker (λ u. u.from ≢ w.from) (λ u. w.from ≢ u.from)
    (λ u other same. other (sym same)) ws (target-each ws w.from apart.0) in
    let both = each_both (λ u. w.to ≢ u.to) (λ u. w.from ≢ u.from) (λ u. (w.to ≢ u.to) × (w.from ≢ u.from))
    (λ u a b. (a, b)) ws tos froms in (
      each.0,
      all_fit-apart h (earlier ++ w ∷ []) ws apart.2 (each_both (Fits h earlier)
          (λ u. (w.to ≢ u.to) × (w.from ≢ u.from)) (Fits h (earlier ++ w ∷ []))
          (λ u fits apart_u. fits_more h earlier w u fits apart_u.0 apart_u.1) ws each.1 both),
    )

record IsInside (b k : ℕ) (w : Wire) : Type 0 where
  from_low : b ≤ w.from.element
  from_high : w.from.element ≤ b + k
  from_line : w.from.line < 4
  to_high : w.to.element ≤ b + k
  to_line : w.to.line < 4

-- the numbers of a wire of a column that a reader sees
record Numbers (b k : ℕ) (from to : Line) : Type 0 where
  from_line : from.line < 4
  to_high : to.element ≤ b + k
  to_line : to.line < 4

numbers : (b k : ℕ) (from to : Line) → IsInner b k from to → Numbers b k from to
numbers b k from to (down r low leaves ends) = rw (leaves, ends)
    (record { from_line = omega arith; to_high = omega arith; to_line = omega arith })
numbers b k from to (up r low leaves ends) = rw (leaves, ends)
    (record { from_line = omega arith; to_high = omega arith; to_line = omega arith })
numbers b k from to (under leaves ends) = rw (leaves, ends) (record
    { from_line = omega arith; to_high = omega arith; to_line = omega arith })
numbers b k from to (over leaves ends) = rw (leaves, ends) (record
    { from_line = omega arith; to_high = omega arith; to_line = omega arith })
numbers b k from to (top leaves ends) = rw (leaves, ends) (record
    { from_line = omega arith; to_high = omega arith; to_line = omega arith })

inner_inside : (b k : ℕ) (w : Wire) → IsInner b k w.from w.to → IsInside b k w
inner_inside b k w inner =
    let n = numbers b k w.from w.to inner in
    record {
      from_low = inner_low b k w.from w.to inner;
      from_high = inner_high b k w.from w.to inner;
      from_line = n.from_line;
      to_high = n.to_high;
      to_line = n.to_line;
    }

inner_fit : (h : Header) (done : List Sentence) (e k q : ℕ) → IsColumnLine h done e k q
    → Each (λ w. w.from.element < e) (wires_after 6 done) → AllFit h (wires_after 6 done) (inner_wires e k)
inner_fit h done e k q line before =
    let there : e + k < h.count = line.there in
    let inner : Each (λ w. IsInner e k w.from w.to) (inner_wires e k) = inner_each e k line.some in
    let one = each_both (λ w. IsInner e k w.from w.to) (λ w. same_line h.end w.from ≡ false)
    (λ w. IsInner e k w.from w.to × (h.end ≢ w.from)) (λ w is test. (is, other_lines h.end w.from test))
    (inner_wires e k) inner line.not_end in
    let two = each_both (λ w. IsInner e k w.from w.to × (h.end ≢ w.from)) (λ w. is_left_by h.place w.from ≡ false)
    (λ w. IsInner e k w.from w.to × (h.end ≢ w.from) × (is_left_by h.place w.from ≡ false))
    (λ w is test. (is.0, is.1, test)) (inner_wires e k) one line.not_left in
    let three = each_both (λ w. IsInner e k w.from w.to × (h.end ≢ w.from) × (is_left_by h.place w.from ≡ false))
    (λ w. same_line h.start w.to ≡ false) (λ w. IsInner e k w.from w.to × (h.end ≢ w.from)
    × (is_left_by h.place w.from ≡ false) × (h.start ≢ w.to))
    (λ w is test. (is.0, is.1, is.2, other_lines h.start w.to test)) (inner_wires e k) two line.not_start in
    let all = each_both (λ w. IsInner e k w.from w.to × (h.end ≢ w.from) × (is_left_by h.place w.from ≡ false)
    × (h.start ≢ w.to)) (λ w. is_some (source (wires_after 6 done) w.to) ≡ false) (Fits h (wires_after 6 done)) fits
    (inner_wires e k) three line.free in
    all_fit-apart h (wires_after 6 done) (inner_wires e k) (inner-are e k line.some).apart all
  where
    fits : (w : Wire) → IsInner e k w.from w.to × (h.end ≢ w.from) × (is_left_by h.place w.from ≡ false)
        × (h.start ≢ w.to) → is_some (source (wires_after 6 done) w.to) ≡ false → Fits h (wires_after 6 done) w
    fits w is unfed =
        let there : e + k < h.count = line.there in
        let inside = inner_inside e k w is.0 in
        let low : e ≤ w.from.element = inside.from_low in
        let high : w.from.element ≤ e + k = inside.from_high in
        let to_high : w.to.element ≤ e + k = inside.to_high in
        record {
          to_there = omega arith;
          to_low = inside.to_line;
          from_there = omega arith;
          from_low = inside.from_line;
          not_end = is.1;
          not_left = is.2;
          not_start = is.3;
          free = wire_within_none (source (wires_after 6 done) w.to) unfed;
          unwired = target-none (wires_after 6 done) w.from (each_weaker (λ u. u.from.element < e)
              (λ u. u.from ≢ w.from) (λ u earlier same. (let elements : u.from.element
              ≡ w.from.element = ap (λ (l : Line). l.element) same in omega (arith, earlier))) (wires_after 6 done)
              before);
        }

-- ---- the wires of rows

-- the wires of these rows, the first of them this element
abbrev pub row_wires : ℕ → List (Option Line × Option Line) → List Wire
row_wires e [] = []
row_wires e (p ∷ ps) = wires_from e east (row_targets p.0 p.1) ++ row_wires (suc e) ps

pub row_wires-are : (e i : ℕ) (sides : List (Option Line × Option Line)) → i ≡ e + 7
    → wires_after i (row_lines sides) ≡ row_wires e sides
row_wires-are e i [] place = refl
row_wires-are e i (p ∷ ps) place =
    let number : row_number i ≡ e = omega arith in
    (λ j. wires_from (number j) east (row_targets p.0 p.1) ++ wires_after (suc i) (row_lines ps))
    ∙ ap (λ (ws : List Wire). wires_from e east (row_targets p.0 p.1) ++ ws)
    (row_wires-are (suc e) (suc i) ps (omega arith))

pub targets_nameable : (x y : Option Line) → AreNameable (x ∷ y ∷ []) → AreNameable (row_targets x y)
targets_nameable None y h = h
targets_nameable (Some l) y h = h

pub row_wires_past : (b k f n : ℕ) (sides : List (Option Line × Option Line)) → f + length sides ≤ n
    → Each (IsPast b k n) (row_wires f sides)
row_wires_past b k f n [] count = tt
row_wires_past b k f n (p ∷ ps) count =
    each_append (IsPast b k n) (wires_from f east (row_targets p.0 p.1)) (row_wires (suc f) ps)
    (each_weaker (λ w. w.from.element ≡ f) (IsPast b k n) (λ w is. inl (omega (arith, is)))
    (wires_from f east (row_targets p.0 p.1)) (wires_of_element f east (row_targets p.0 p.1)))
    (row_wires_past b k (suc f) n ps (omega arith))

rows_fit : (h : Header) (b k r f : ℕ) (sides : List (Option Line × Option Line)) (done : List Sentence) → f ≡ b + r
    → b + k < h.count → r + length sides ≤ k → length done ≡ suc f → Each (IsPast b k f) (wires_after 6 done)
    → AreFaultlessAfter (header_then h done) (row_lines sides) → AllFit h (wires_after 6 done) (row_wires f sides)
rows_fit h b k r f [] done at_f within count made past faultless = tt
rows_fit h b k r f (p ∷ ps) done at_f within count made past faultless =
    let ts = row_targets p.0 p.1 in
    let next : IsNext (header_then h done) (Row p.0 p.1) = faultless.0 in
    let number : row_number (length (header_then h done)) ≡ f = omega arith in
    let none : outputs_fault (header_then h done) (wires_after 6 done) f east ts ≡ None =
    subst (λ (n : ℕ). outputs_fault (header_then h done) (wires_after 6 done) n east ts ≡ None) number faultless.1
    in
    let clear = each_weaker (IsPast b k f) (IsClearOf f east ts)
    (λ w is. past_clear b k r f p.0 p.1 w at_f (omega arith) is) (wires_after 6 done) past in
    let here = outputs_fit h done (wires_after 6 done) f east ts none (targets_nameable p.0 p.1 next.sayable)
    (omega arith) (omega arith) clear in
    let place : row_number (6 + length done) ≡ f = omega arith in
    let wires : wires_after 6 (done ++ Row p.0 p.1 ∷ []) ≡ wires_after 6 done ++ wires_from f east ts =
    wires_after-more 6 done (Row p.0 p.1) ∙ ap (λ (n : ℕ). wires_after 6 done ++ wires_from n east ts) place in
    let past_more : Each (IsPast b k (suc f)) (wires_after 6 (done ++ Row p.0 p.1 ∷ [])) =
    subst (Each (IsPast b k (suc f))) (sym wires)
    (each_append (IsPast b k (suc f)) (wires_after 6 done) (wires_from f east ts)
    (each_weaker (IsPast b k f) (IsPast b k (suc f)) (further b k f) (wires_after 6 done) past)
    (each_weaker (λ w. w.from.element ≡ f) (IsPast b k (suc f)) (λ w is. inl (omega (arith, is))) (wires_from f east ts)
    (wires_of_element f east ts)))
    in
    let made_more = length_more done (Row p.0 p.1) in
    let rest = rows_fit h b k (suc r) (suc f) ps (done ++ Row p.0 p.1 ∷ []) (omega arith) within (omega arith)
    (omega arith) past_more faultless.2 in
    all_fit-append h (wires_after 6 done) (wires_from f east ts) (row_wires (suc f) ps) here
    (subst (λ (ws : List Wire). AllFit h ws (row_wires (suc f) ps)) wires rest)

-- ---- the wires of all blocks

-- what has been said once a column and its rows have
pub record IsGroupSaid (h : Header) (done : List Sentence) (e k q : ℕ) (sides : List (Option Line × Option Line)) : Type
    0 where
  pub lines : List Sentence
  pub are : lines ≡ (done ++ Column e k q ∷ []) ++ row_lines sides
  pub count : length lines ≡ suc (e + k)
  pub wires : wires_after 6 lines ≡ wires_after 6 done ++ (inner_wires e k ++ row_wires e sides)

pub length_rows : (sides : List (Option Line × Option Line)) → length (row_lines sides) ≡ length sides
length_rows [] = refl
length_rows (p ∷ ps) = ap suc (length_rows ps)

pub group_said : (h : Header) (done : List Sentence) (e k q : ℕ) (sides : List (Option Line × Option Line))
    → length done ≡ e → length sides ≡ k → IsGroupSaid h done e k q sides
group_said h done e k q sides made count =
    let x : Sentence = Column e k q in
    let made_more = length_more done x in
    let all = length-append (done ++ x ∷ []) (row_lines sides) in
    let rows = length_rows sides in
    let wires_x : wires_after 6 (done ++ x ∷ []) ≡ wires_after 6 done ++ inner_wires e k = wires_after-more 6 done x in
    let place : 6 + length (done ++ x ∷ []) ≡ e + 7 = omega arith in
    record {
      lines = (done ++ x ∷ []) ++ row_lines sides;
      are = refl;
      count = omega arith;
      wires = wires_after-append 6 (done ++ x ∷ []) (row_lines sides)
          ∙ ap (λ (ws : List Wire). ws ++ wires_after (6 + length (done ++ x ∷ [])) (row_lines sides)) wires_x
          ∙ ap (λ (ws : List Wire). (wires_after 6 done ++ inner_wires e k) ++ ws)
          (row_wires-are e (6 + length (done ++ x ∷ [])) sides place)
          ∙ append_assoc (wires_after 6 done) (inner_wires e k) (row_wires e sides);
    }

pub group_past : (b k f : ℕ) (w : Wire) → f ≡ b + k → IsPast b k f w → w.from.element < suc (b + k)
group_past b k f w all (inl earlier) = omega (arith, earlier)
group_past b k f w all (inr inner) = let high = inner_high b k w.from w.to inner in omega arith

-- faultless lines are so at their front
pub front_faultless : (earlier xs ys : List Sentence) → AreFaultlessAfter earlier (xs ++ ys)
    → AreFaultlessAfter earlier xs
front_faultless earlier [] ys f = tt
front_faultless earlier (x ∷ xs) ys f = (f.0, f.1, front_faultless (earlier ++ x ∷ []) xs ys f.2)

pub group_wires : (i n b k q : ℕ) (sides : List (Option Line × Option Line)) (rest : List Sentence) → i ≡ b + 6
    → n ≡ suc (b + k) + 6 → length sides ≡ k → (inner_wires b k ++ row_wires b sides) ++ wires_after n rest
    ≡ wires_after i (Column b k q ∷ (row_lines sides ++ rest))
group_wires i n b k q sides rest at_b behind count =
    let place : suc i ≡ b + 7 = omega arith in
    let lines = length_rows sides in
    let next : n ≡ suc i + length (row_lines sides) = omega arith in
    append_assoc (inner_wires b k) (row_wires b sides) (wires_after n rest)
    ∙ ap (λ (ws : List Wire). inner_wires b k ++ (ws ++ wires_after n rest)) (sym (row_wires-are b (suc i) sides place))
    ∙ ap (λ (m : ℕ). inner_wires b k ++ (wires_after (suc i) (row_lines sides) ++ wires_after m rest)) next
    ∙ ap (λ (ws : List Wire). inner_wires b k ++ ws) (sym (wires_after-append (suc i) (row_lines sides) rest))

pub blocks_fit : (h : Header) (done rows : List Sentence) (e i : ℕ) → Blocks rows → length done ≡ e → i ≡ e + 6
    → Each (λ w. w.from.element < e) (wires_after 6 done) → AreFaultlessAfter (header_then h done) rows
    → AllFit h (wires_after 6 done) (wires_after i rows)
blocks_fit h done rows e i (no_block is) made place before f =
    subst (λ (zs : List Sentence). AllFit h (wires_after 6 done) (wires_after i zs)) (sym is) tt
blocks_fit h done rows e i (single n q ts rest is more) made place before f =
    let g : AreFaultlessAfter (header_then h done) (Element n q ts ∷ rest) =
    subst (AreFaultlessAfter (header_then h done)) is f in
    let line = element_line h done n q ts g.0 g.1 in
    let number : n ≡ length done = line.number in
    let four : length ts ≡ 4 = line.four in
    let clear = each_weaker (λ w. w.from.element < e) (IsClearOf n 0 ts)
    (λ w is. element_clear n 0 ts w (λ same. omega (arith, is, same))) (wires_after 6 done) before in
    let here = outputs_fit h done (wires_after 6 done) n 0 ts line.faultless line.nameable (omega arith) line.there
    clear in
    let wires : wires_after 6 (done ++ Element n q ts ∷ []) ≡ wires_after 6 done ++ wires_from n 0 ts =
    wires_after-more 6 done (Element n q ts) in
    let before_more : Each (λ w. w.from.element < suc e) (wires_after 6 (done ++ Element n q ts ∷ [])) =
    subst (Each (λ w. w.from.element < suc e)) (sym wires)
    (each_append (λ w. w.from.element < suc e) (wires_after 6 done) (wires_from n 0 ts)
    (each_weaker (λ w. w.from.element < e) (λ w. w.from.element < suc e) (λ w is. omega (arith, is))
    (wires_after 6 done) before)
    (each_weaker (λ w. w.from.element ≡ n) (λ w. w.from.element < suc e) (λ w is. omega (arith, is)) (wires_from n 0 ts)
    (wires_of_element n 0 ts)))
    in
    let made_more = length_more done (Element n q ts) in
    let behind = blocks_fit h (done ++ Element n q ts ∷ []) rest (suc e) (suc i) more (omega arith) (omega arith)
    before_more g.2 in
    let all = all_fit-append h (wires_after 6 done) (wires_from n 0 ts) (wires_after (suc i) rest) here
    (subst (λ (ws : List Wire). AllFit h ws (wires_after (suc i) rest)) wires behind) in
    subst (λ (zs : List Sentence). AllFit h (wires_after 6 done) (wires_after i zs)) (sym is) all
blocks_fit h done rows e i (group b k q sides rest count is more) made place before f =
    let x : Sentence = Column b k q in
    let g : AreFaultlessAfter (header_then h done) (x ∷ (row_lines sides ++ rest)) =
    subst (AreFaultlessAfter (header_then h done)) is f in
    let line = column_line h done b k q g.0 g.1 in
    let number : b ≡ length done = line.number in
    let before_b : Each (λ w. w.from.element < b) (wires_after 6 done) =
    each_weaker (λ w. w.from.element < e) (λ w. w.from.element < b) (λ w is. omega (arith, is)) (wires_after 6 done)
    before in
    let inner = inner_fit h done b k q line before_b in
    let wires_x : wires_after 6 (done ++ x ∷ []) ≡ wires_after 6 done ++ inner_wires b k = wires_after-more 6 done x in
    let past : Each (IsPast b k b) (wires_after 6 (done ++ x ∷ [])) = subst (Each (IsPast b k b)) (sym wires_x)
    (each_append (IsPast b k b) (wires_after 6 done) (inner_wires b k)
    (each_weaker (λ w. w.from.element < b) (IsPast b k b) (λ w is. inl is) (wires_after 6 done) before_b)
    (each_weaker (λ w. IsInner b k w.from w.to) (IsPast b k b) (λ w is. inr is) (inner_wires b k)
    (inner_each b k line.some)))
    in
    let made_x = length_more done x in
    let rows_f : AreFaultlessAfter (header_then h (done ++ x ∷ [])) (row_lines sides) =
    front_faultless (header_then h (done ++ x ∷ [])) (row_lines sides) rest g.2 in
    let rows_are = rows_fit h b k 0 b sides (done ++ x ∷ []) (omega arith) line.there (omega arith) (omega arith) past
    rows_f in
    let said = group_said h done b k q sides (sym number) count in
    let both : AllFit h (wires_after 6 done) (inner_wires b k ++ row_wires b sides) =
    all_fit-append h (wires_after 6 done) (inner_wires b k) (row_wires b sides) inner
    (subst (λ (ws : List Wire). AllFit h ws (row_wires b sides)) wires_x rows_are) in
    let before_more : Each (λ w. w.from.element < suc (b + k)) (wires_after 6 said.lines) =
    subst (Each (λ w. w.from.element < suc (b + k))) (sym said.wires)
    (each_append (λ w. w.from.element < suc (b + k)) (wires_after 6 done) (inner_wires b k ++ row_wires b sides)
    (each_weaker (λ w. w.from.element < b) (λ w. w.from.element < suc (b + k)) (λ w is. omega (arith, is))
    (wires_after 6 done) before_b)
    (each_append (λ w. w.from.element < suc (b + k)) (inner_wires b k) (row_wires b sides)
    (each_weaker (λ w. IsInner b k w.from w.to) (λ w. w.from.element < suc (b + k))
    (λ w is. (let high = inner_high b k w.from w.to is in omega arith)) (inner_wires b k)
    (inner_each b k line.some))
    (each_weaker (IsPast b k (b + k)) (λ w. w.from.element < suc (b + k)) (λ w is. group_past b k (b + k) w refl is)
    (row_wires b sides) (row_wires_past b k b (b + k) sides (omega arith)))))
    in
    let behind_f : AreFaultlessAfter (header_then h said.lines) rest =
    subst (λ (zs : List Sentence). AreFaultlessAfter (header_then h zs) rest) (sym said.are)
    (first_after (header_then h (done ++ x ∷ [])) (row_lines sides) rest g.2) in
    let n : ℕ = suc (b + k) + 6 in
    let behind = blocks_fit h said.lines rest (suc (b + k)) n more said.count refl before_more behind_f in
    let all : AllFit h (wires_after 6 done) ((inner_wires b k ++ row_wires b sides) ++ wires_after n rest) =
    all_fit-append h (wires_after 6 done) (inner_wires b k ++ row_wires b sides) (wires_after n rest) both
    (subst (λ (ws : List Wire). AllFit h ws (wires_after n rest)) said.wires behind) in
    let shape : (inner_wires b k ++ row_wires b sides) ++ wires_after n rest
    ≡ wires_after i (x ∷ (row_lines sides ++ rest)) = group_wires i n b k q sides rest (omega arith) refl count in
    subst (λ (zs : List Sentence). AllFit h (wires_after 6 done) (wires_after i zs)) (sym is)
    (subst (AllFit h (wires_after 6 done)) shape all)
