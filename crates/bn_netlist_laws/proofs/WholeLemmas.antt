-- Whole lines without a fault, in which no column is spelled out, spell a configuration.
use Rattle.std.specs.Prelude.{◌≡◌, ◌≢◌, ℕ, ◌+◌, ◌-◌, ◌<◌, ◌≤◌, List, [], ◌∷◌, ◌++◌, length, replicate, Option, Some}
use Rattle.std.specs.Prelude.{None, slice_get, if◌then◌else◌, refl}
use Rattle.std.proofs.Common.{zero, suc, arith, sym, ap, subst, ◌∙◌, inl, inr, ◌⊎◌}
use Rattle.std.proofs.lemmas.List.{append_assoc, append-nil, length-append, length-replicate}
use Rattle.std.proofs.lemmas.Option.{same_Some}
use Rattle.bn_circuits.specs.Circuits.{same_line, target, source, IsCircuit, IsOneToOne, IsInputOf, IsOutputOf}
use Rattle.bn_circuits.specs.declared.line.Line.{Line}
use Rattle.bn_circuits.specs.declared.line.Wire.{Wire}
use Rattle.bn_circuits.proofs.WireListLemmas.{line_tells, target-push, source-push}
use Rattle.bn_element.specs.Rotary.{rotary, vertical, north, east, south, west}
use Rattle.bn_column.specs.Columns.{IsInner, down, up, under, over, top}
use Rattle.bn_circuits.specs.Circuits.{line_at}
use Rattle.bn_circuits.proofs.WiringsLemmas.{no_target}
use Rattle.bn_netlist_laws.specs.Spelling.{Spelling, circuit_of, targets_of}
use Rattle.bn_netlist_laws.specs.Faults.{wires_from}
use Rattle.bn_netlist_laws.proofs.WireLemmas.{rotary_inputs, rotary_outputs, rotary_reversible, other_line, Each}
use Rattle.bn_netlist_laws.proofs.WireLemmas.{each_append, each_weaker, target-none}
use Rattle.bn_netlist_laws.specs.Columns.{IsColumnAt, inner_wires, rotary_elements}
use Rattle.bn_netlist_laws.specs.Sentences.{Sentence, Title, Count, Start, End, Steps, At, Element, Column, Row}
use Rattle.bn_netlist_laws.specs.Spelling.{header_then, row_sentences, AreEntries, no_entry, element_entry}
use Rattle.bn_netlist_laws.specs.Spelling.{column_entry}
use Rattle.bn_netlist_laws.specs.Faults.{header_lines, wires_after, bars_in, row_targets, AreFaultlessAfter}
use Rattle.bn_netlist_laws.specs.Faults.{IsSpelledOut}
use Rattle.bn_netlist_laws.specs.declared.header.Header.{Header}
use Rattle.bn_netlist_laws.proofs.ColumnLemmas.{inner-are, rotary_at}
use Rattle.bn_netlist_laws.proofs.LineLemmas.{wires_after-append, wires_after-more, length_more}
use Rattle.bn_netlist_laws.proofs.SaidLemmas.{inner_each}
use Rattle.bn_netlist_laws.proofs.AdmittedLemmas.{wires_of_element, inner_low, inner_high}
use Rattle.bn_netlist_laws.proofs.TextLemmas.{first_after}
use Rattle.bn_netlist_laws.proofs.BlockLemmas.{Blocks, no_block, single, group, row_lines, element_line, column_line}
use Rattle.bn_netlist_laws.proofs.FitLemmas.{Fits, AllFit, all-each, row_wires, group_said, group_wires, length_rows}
use Rattle.bn_netlist_laws.proofs.AdmittedLemmas.{none_is_not_some as none_some}

-- ---- the wires are those of a circuit

target-leads : (ws : List Wire) (w : Wire) (from to : Line) → IsOneToOne ws → target ws w.from ≡ None
    → source ws w.to ≡ None → target (ws ++ w ∷ []) from ≡ Some to → source (ws ++ w ∷ []) to ≡ Some from
target-leads ws w from to one unwired free leads =
    let pushed : (if same_line w.from from then Some w.to else target ws from) ≡ Some to =
    sym (target-push ws w from unwired) ∙ leads in
    source-push ws w to free
    ∙ elim (line_tells w.from from) [
      | inl here ↦
          (let found : ◌≡◌ {A = Option Line} (Some w.to) (Some to) = rw here.0 at pushed in
          let same : w.to ≡ to = same_Some w.to to found in
          elim (line_tells w.to to) [
            | inl there ↦ rw there.0 (ap (λ (l : Line). Some l) here.1)
            | inr other ↦ absurd (other.1 same)
          ])
      | inr apart ↦
          (let found : target ws from ≡ Some to = rw apart.0 at pushed in
          let back : source ws to ≡ Some from = (one from to).0 found in
          elim (line_tells w.to to) [
            | inl there ↦ absurd (none_some from (source ws to) (subst (λ (l : Line). source ws l ≡ None) there.1 free)
                back)
            | inr other ↦ rw other.0 back
          ])
    ]

source-leads : (ws : List Wire) (w : Wire) (from to : Line) → IsOneToOne ws → target ws w.from ≡ None
    → source ws w.to ≡ None → source (ws ++ w ∷ []) to ≡ Some from → target (ws ++ w ∷ []) from ≡ Some to
source-leads ws w from to one unwired free leads =
    let pushed : (if same_line w.to to then Some w.from else source ws to) ≡ Some from =
    sym (source-push ws w to free) ∙ leads in
    target-push ws w from unwired
    ∙ elim (line_tells w.to to) [
      | inl here ↦
          (let found : ◌≡◌ {A = Option Line} (Some w.from) (Some from) = rw here.0 at pushed in
          let same : w.from ≡ from = same_Some w.from from found in
          elim (line_tells w.from from) [
            | inl there ↦ rw there.0 (ap (λ (l : Line). Some l) here.1)
            | inr other ↦ absurd (other.1 same)
          ])
      | inr apart ↦
          (let found : source ws to ≡ Some from = rw apart.0 at pushed in
          let back : target ws from ≡ Some to = (one from to).1 found in
          elim (line_tells w.from from) [
            | inl there ↦ absurd (none_some to (target ws from) (subst (λ (l : Line). target ws l ≡ None) there.1
                unwired) back)
            | inr other ↦ rw other.0 back
          ])
    ]

fit-one_to_one : (h : Header) (earlier ws : List Wire) → IsOneToOne earlier → AllFit h earlier ws
    → IsOneToOne (earlier ++ ws)
fit-one_to_one h earlier [] one fit = subst IsOneToOne (sym (append-nil earlier)) one
fit-one_to_one h earlier (w ∷ ws) one fit =
    let here : Fits h earlier w = fit.0 in
    let more : IsOneToOne (earlier ++ w ∷ []) = λ from to. (
      target-leads earlier w from to one here.unwired here.free,
      source-leads earlier w from to one here.unwired here.free,
    ) in
    subst IsOneToOne (append_assoc earlier (w ∷ []) ws) (fit-one_to_one h (earlier ++ w ∷ []) ws more fit.1)

none_one_to_one : IsOneToOne []
none_one_to_one from to = (λ h. absurd (none_some to None refl h), λ h. absurd (none_some from None refl h))

target-holds : (P : Line → Line → Type 0) (ws : List Wire) (from to : Line) → Each (λ w. P w.from w.to) ws
    → target ws from ≡ Some to → P from to
target-holds P [] from to each leads = absurd (none_some to None refl leads)
target-holds P (w ∷ ws) from to each leads =
    elim (line_tells w.from from) [
      | inl here ↦
          (let found : ◌≡◌ {A = Option Line} (Some w.to) (Some to) = rw here.0 at leads in
          let same : w.to ≡ to = same_Some w.to to found in
          subst (λ (l : Line). P from l) same (subst (λ (l : Line). P l w.to) here.1 each.0))
      | inr apart ↦ target-holds P ws from to each.1 (rw apart.0 at leads)
    ]

pub fit-circuit : (h : Header) (ws : List Wire) → AllFit h [] ws → IsCircuit (rotary_elements h.count ws)
fit-circuit h ws fit =
    let P : Line → Line → Type 0 = λ from to. IsOutputOf (replicate h.count rotary) from
    × IsInputOf (replicate h.count rotary) to in
    record {
      reversible = rotary_reversible h.count;
      one_to_one = fit-one_to_one h [] ws none_one_to_one fit;
      wired = λ from to leads. target-holds P ws from to (all-each h (λ w. P w.from w.to) within [] ws fit) leads;
    }
  where
    within : (earlier : List Wire) (w : Wire) → Fits h earlier w
        → IsOutputOf (replicate h.count rotary) w.from × IsInputOf (replicate h.count rotary) w.to
    within earlier w fits =
        let outs = rotary_outputs h.count w.from.element fits.from_there in
        let ins = rotary_inputs h.count w.to.element fits.to_there in
        let from_low : w.from.line < 4 = fits.from_low in
        let to_low : w.to.line < 4 = fits.to_low in
        (omega arith, omega arith)

-- ---- wires in front and behind

target_front : (ws vs : List Wire) (from : Line) → Each (λ w. w.from ≢ from) vs
    → target (ws ++ vs) from ≡ target ws from
target_front [] vs from clear = target-none vs from clear
target_front (w ∷ ws) vs from clear =
    elim (line_tells w.from from) [
      | inl same ↦ rw same.0 refl
      | inr other ↦ rw other.0 (target_front ws vs from clear)
    ]

target_behind : (ws vs : List Wire) (from : Line) → Each (λ w. w.from ≢ from) ws
    → target (ws ++ vs) from ≡ target vs from
target_behind [] vs from clear = refl
target_behind (w ∷ ws) vs from clear = let e = other_line w.from from clear.0 in rw e (target_behind ws vs from clear.1)

target_some : (ws vs : List Wire) (from to : Line) → target ws from ≡ Some to → target (ws ++ vs) from ≡ Some to
target_some [] vs from to leads = absurd (none_some to None refl leads)
target_some (w ∷ ws) vs from to leads =
    elim (line_tells w.from from) [
      | inl same ↦ rw same.0 (rw same.0 at leads)
      | inr other ↦ rw other.0 (target_some ws vs from to (rw other.0 at leads))
    ]

target_after_none : (ws vs : List Wire) (from : Line) → target ws from ≡ None → target (ws ++ vs) from ≡ target vs from
target_after_none [] vs from none = refl
target_after_none (w ∷ ws) vs from none =
    elim (line_tells w.from from) [
      | inl same ↦ absurd (let found = rw same.0 at none in none_some w.to (Some w.to) found refl)
      | inr other ↦ rw other.0 (target_after_none ws vs from (rw other.0 at none))
    ]

apart_element : (from other : Line) → from.element ≢ other.element → from ≢ other
apart_element from other apart same = apart (ap (λ (l : Line). l.element) same)

-- where the outputs of an element lead by its own wires
from_target : (e o : ℕ) (xs : List (Option Line)) (i l : ℕ) (x : Option Line) → l ≡ o + i → slice_get xs i ≡ Some x
    → target (wires_from e o xs) (line_at e l) ≡ x
from_target e o [] i l x place has = absurd (cc)
from_target e o (None ∷ xs) zero l x place has =
    let is : None ≡ x = same_Some None x has in
    from_other e (suc o) xs l (omega arith) ∙ is
  where
    from_other : (e o : ℕ) (xs : List (Option Line)) (l : ℕ) → l < o → target (wires_from e o xs) (line_at e l) ≡ None
    from_other e o [] l low = refl
    from_other e o (None ∷ xs) l low = from_other e (suc o) xs l (omega arith)
    from_other e o (Some to ∷ xs) l low =
        let other = other_line (line_at e o) (line_at e l) (λ same.
        (let lines : o ≡ l = ap (λ (y : Line). y.line) same in omega arith)) in
        rw other (from_other e (suc o) xs l (omega arith))
from_target e o (Some to ∷ xs) zero l x place has =
    let is : Some to ≡ x = same_Some (Some to) x has in
    elim (line_tells (line_at e o) (line_at e l)) [
      | inl same ↦ rw same.0 is
      | inr other ↦ absurd (other.1 (let e_is : o ≡ l = omega arith in ap (λ (m : ℕ). line_at e m) e_is))
    ]
from_target e o (None ∷ xs) (suc i) l x place has = from_target e (suc o) xs i l x (omega arith) has
from_target e o (Some to ∷ xs) (suc i) l x place has =
    let other = other_line (line_at e o) (line_at e l) (λ same.
    (let lines : o ≡ l = ap (λ (y : Line). y.line) same in omega arith)) in
    rw other (from_target e (suc o) xs i l x (omega arith) has)

four_targets : (vs : List Wire) (n : ℕ) (xs : List (Option Line)) → length xs ≡ 4
    → ((i : ℕ) (x : Option Line) → slice_get xs i ≡ Some x → target vs (line_at n i) ≡ x) → targets_of vs n ≡ xs
four_targets vs n [] four is = absurd (omega arith)
four_targets vs n (a ∷ []) four is = absurd (omega arith)
four_targets vs n (a ∷ b ∷ []) four is = absurd (omega arith)
four_targets vs n (a ∷ b ∷ c ∷ []) four is = absurd (omega arith)
four_targets vs n (a ∷ b ∷ c ∷ d ∷ []) four is =
    let first = is 0 a refl in
    let second = is 1 b refl in
    let third = is 2 c refl in
    let fourth = is 3 d refl in
    rw (first, second, third, fourth) refl
four_targets vs n (a ∷ b ∷ c ∷ d ∷ e ∷ xs) four is = absurd (omega arith)

row_wires_low : (e : ℕ) (sides : List (Option Line × Option Line)) → Each (λ w. e ≤ w.from.element) (row_wires e sides)
row_wires_low e [] = tt
row_wires_low e (p ∷ ps) =
    each_append (λ w. e ≤ w.from.element) (wires_from e east (row_targets p.0 p.1)) (row_wires (suc e) ps)
    (each_weaker (λ w. w.from.element ≡ e) (λ w. e ≤ w.from.element) (λ w is. omega (arith, is))
    (wires_from e east (row_targets p.0 p.1)) (wires_of_element e east (row_targets p.0 p.1)))
    (each_weaker (λ w. suc e ≤ w.from.element) (λ w. e ≤ w.from.element) (λ w is. omega (arith, is))
    (row_wires (suc e) ps) (row_wires_low (suc e) ps))

row_wires_high : (e n : ℕ) (sides : List (Option Line × Option Line)) → e + length sides ≤ n
    → Each (λ w. w.from.element < n) (row_wires e sides)
row_wires_high e n [] count = tt
row_wires_high e n (p ∷ ps) count =
    each_append (λ w. w.from.element < n) (wires_from e east (row_targets p.0 p.1)) (row_wires (suc e) ps)
    (each_weaker (λ w. w.from.element ≡ e) (λ w. w.from.element < n) (λ w is. omega (arith, is))
    (wires_from e east (row_targets p.0 p.1)) (wires_of_element e east (row_targets p.0 p.1)))
    (row_wires_high (suc e) n ps (omega arith))

-- wires of blocks leave no earlier element
blocks_low : (h : Header) (done rows : List Sentence) (e i : ℕ) → Blocks rows → length done ≡ e → i ≡ e + 6
    → AreFaultlessAfter (header_then h done) rows → Each (λ w. e ≤ w.from.element) (wires_after i rows)
blocks_low h done rows e i (no_block is) made place f = subst
    (λ (zs : List Sentence). Each (λ w. e ≤ w.from.element) (wires_after i zs)) (sym is) tt
blocks_low h done rows e i (single n q ts rest is more) made place f =
    let g : AreFaultlessAfter (header_then h done) (Element n q ts ∷ rest) =
    subst (AreFaultlessAfter (header_then h done)) is f in
    let line = element_line h done n q ts g.0 g.1 in
    let number : n ≡ length done = line.number in
    let made_more = length_more done (Element n q ts) in
    let behind = blocks_low h (done ++ Element n q ts ∷ []) rest (suc e) (suc i) more (omega arith) (omega arith) g.2 in
    subst (λ (zs : List Sentence). Each (λ w. e ≤ w.from.element) (wires_after i zs)) (sym is)
    (each_append (λ w. e ≤ w.from.element) (wires_from n 0 ts) (wires_after (suc i) rest)
    (each_weaker (λ w. w.from.element ≡ n) (λ w. e ≤ w.from.element) (λ w is_n. omega (arith, is_n)) (wires_from n 0 ts)
    (wires_of_element n 0 ts))
    (each_weaker (λ w. suc e ≤ w.from.element) (λ w. e ≤ w.from.element) (λ w low. omega (arith, low))
    (wires_after (suc i) rest) behind))
blocks_low h done rows e i (group b k q sides rest count is more) made place f =
    let x : Sentence = Column b k q in
    let g : AreFaultlessAfter (header_then h done) (x ∷ (row_lines sides ++ rest)) =
    subst (AreFaultlessAfter (header_then h done)) is f in
    let line = column_line h done b k q g.0 g.1 in
    let number : b ≡ length done = line.number in
    let said = group_said h done b k q sides (sym number) count in
    let behind_f : AreFaultlessAfter (header_then h said.lines) rest =
    subst (λ (zs : List Sentence). AreFaultlessAfter (header_then h zs) rest) (sym said.are)
    (first_after (header_then h (done ++ x ∷ [])) (row_lines sides) rest g.2) in
    let n : ℕ = suc (b + k) + 6 in
    let behind = blocks_low h said.lines rest (suc (b + k)) n more said.count refl behind_f in
    let shape = group_wires i n b k q sides rest (omega arith) refl count in
    let same : b ≡ e = omega arith in
    let all : Each (λ w. b ≤ w.from.element) ((inner_wires b k ++ row_wires b sides) ++ wires_after n rest) =
    each_append (λ w. b ≤ w.from.element) (inner_wires b k ++ row_wires b sides) (wires_after n rest)
    (each_append (λ w. b ≤ w.from.element) (inner_wires b k) (row_wires b sides)
    (each_weaker (λ w. IsInner b k w.from w.to) (λ w. b ≤ w.from.element) (λ w inner. inner_low b k w.from w.to inner)
    (inner_wires b k) (inner_each b k line.some))
    (row_wires_low b sides))
    (each_weaker (λ w. suc (b + k) ≤ w.from.element) (λ w. b ≤ w.from.element) (λ w low. omega (arith, low))
    (wires_after n rest) behind)
    in
    subst (λ (zs : List Sentence). Each (λ w. e ≤ w.from.element) (wires_after i zs)) (sym is)
    (subst (Each (λ w. e ≤ w.from.element)) shape (subst (λ (m : ℕ). Each (λ w. m ≤ w.from.element)
    ((inner_wires b k ++ row_wires b sides) ++ wires_after n rest)) same all))

-- ---- states

pub states_in-append : (xs ys : List Sentence) → bars_in (xs ++ ys) ≡ bars_in xs ++ bars_in ys
states_in-append [] ys = refl
states_in-append (Title v ∷ xs) ys = states_in-append xs ys
states_in-append (Count c ∷ xs) ys = states_in-append xs ys
states_in-append (Start l ∷ xs) ys = states_in-append xs ys
states_in-append (End l ∷ xs) ys = states_in-append xs ys
states_in-append (Steps t ∷ xs) ys = states_in-append xs ys
states_in-append (At p ∷ xs) ys = states_in-append xs ys
states_in-append (Element n q ts ∷ xs) ys = ap (λ (qs : List ℕ). q ∷ qs) (states_in-append xs ys)
states_in-append (Column e k q ∷ xs) ys =
    ap (λ (qs : List ℕ). replicate k vertical ++ q ∷ qs) (states_in-append xs ys)
    ∙ sym (append_assoc (replicate k vertical) (q ∷ bars_in xs) (bars_in ys))
states_in-append (Row x y ∷ xs) ys = states_in-append xs ys

states_in-rows : (sides : List (Option Line × Option Line)) (rest : List Sentence)
    → bars_in (row_lines sides ++ rest) ≡ bars_in rest
states_in-rows [] rest = refl
states_in-rows (p ∷ ps) rest = states_in-rows ps rest

pub get_behind : {X : Type 0} (xs ys : List X) (i n : ℕ) → n ≡ length xs + i → slice_get (xs ++ ys) n ≡ slice_get ys i
get_behind [] ys i n place = let same : n ≡ i = omega arith in ap (λ (m : ℕ). slice_get ys m) same
get_behind (x ∷ xs) ys i zero place = absurd (omega arith)
get_behind (x ∷ xs) ys i (suc n) place = get_behind xs ys i n (omega arith)

get_replicate : (k r : ℕ) (ys : List ℕ) → r < k → slice_get (replicate k vertical ++ ys) r ≡ Some vertical
get_replicate zero r ys below = absurd (omega arith)
get_replicate (suc k) zero ys below = refl
get_replicate (suc k) (suc r) ys below = get_replicate k r ys (omega arith)

-- each state is one of two
abbrev pub AreLow : List ℕ → Type 0
AreLow [] = Unit {0}
AreLow (q ∷ qs) = (q < 2) × AreLow qs

low_append : (xs ys : List ℕ) → AreLow xs → AreLow ys → AreLow (xs ++ ys)
low_append [] ys h k = k
low_append (x ∷ xs) ys h k = (h.0, low_append xs ys h.1 k)

low_vertical : (k : ℕ) → AreLow (replicate k vertical)
low_vertical zero = tt
low_vertical (suc k) = (omega arith, low_vertical k)

pub low_at : (qs : List ℕ) (i q : ℕ) → AreLow qs → slice_get qs i ≡ Some q → q < 2
low_at [] i q low has = absurd (cc)
low_at (p ∷ qs) zero q low has = let same : p ≡ q = same_Some p q has in let below : p < 2 = low.0 in omega arith
low_at (p ∷ qs) (suc i) q low has = low_at qs i q low.1 has

pub record AreStates (n : ℕ) (qs : List ℕ) : Type 0 where
  pub count : length qs ≡ n
  pub low : AreLow qs

pub blocks_states : (h : Header) (done rows : List Sentence) → Blocks rows → AreFaultlessAfter (header_then h done) rows
    → AreStates (length rows) (bars_in rows)
blocks_states h done rows (no_block is) f = subst (λ (zs : List Sentence). AreStates (length zs) (bars_in zs)) (sym is)
    (record { count = refl; low = tt })
blocks_states h done rows (single n q ts rest is more) f =
    let g : AreFaultlessAfter (header_then h done) (Element n q ts ∷ rest) =
    subst (AreFaultlessAfter (header_then h done)) is f in
    let line = element_line h done n q ts g.0 g.1 in
    let behind = blocks_states h (done ++ Element n q ts ∷ []) rest more g.2 in
    subst (λ (zs : List Sentence). AreStates (length zs) (bars_in zs)) (sym is)
    (record { count = ap suc behind.count; low = (line.state, behind.low) })
blocks_states h done rows (group b k q sides rest count is more) f =
    let x : Sentence = Column b k q in
    let g : AreFaultlessAfter (header_then h done) (x ∷ (row_lines sides ++ rest)) =
    subst (AreFaultlessAfter (header_then h done)) is f in
    let line = column_line h done b k q g.0 g.1 in
    let behind = blocks_states h ((done ++ x ∷ []) ++ row_lines sides) rest more
    (first_after (header_then h (done ++ x ∷ [])) (row_lines sides) rest g.2) in
    let states : bars_in (x ∷ (row_lines sides ++ rest)) ≡ replicate k vertical ++ q ∷ bars_in rest =
    ap (λ (qs : List ℕ). replicate k vertical ++ q ∷ qs) (states_in-rows sides rest) in
    let whole = length-append (replicate k vertical) (q ∷ bars_in rest) in
    let first = length-replicate k vertical in
    let lines = length-append (row_lines sides) rest in
    let rows_are = length_rows sides in
    let behind_count : length (bars_in rest) ≡ length rest = behind.count in
    let same = ap length states in
    subst (λ (zs : List Sentence). AreStates (length zs) (bars_in zs)) (sym is)
    (record {
      count = omega arith;
      low = subst AreLow (sym states) (low_append (replicate k vertical) (q ∷ bars_in rest) (low_vertical k)
          (line.state, behind.low));
    })

-- ---- the entries

-- what the lines of entries say after a header
abbrev pub said_by : Header → List Sentence → Spelling
said_by h rows =
    record {
      elements = h.count;
      wires = wires_after 6 rows;
      config = record { states = bars_in rows; place = h.place; steps = h.steps };
      start = h.start;
      end = h.end;
    }

-- the rows of a column say where its east and west outputs lead
rows_are : (ws : List Wire) (e : ℕ) (sides : List (Option Line × Option Line))
    → ((f : ℕ) → e ≤ f → f < e + length sides → (target ws (line_at f east)
    ≡ target (row_wires e sides) (line_at f east)) × (target ws (line_at f west)
    ≡ target (row_wires e sides) (line_at f west))) → row_sentences ws e (length sides) ≡ row_lines sides
rows_are ws e [] leads = refl
rows_are ws e (p ∷ ps) leads =
    let ts = row_targets p.0 p.1 in
    let here = leads e (omega arith) (omega arith) in
    let clear : (l : ℕ) → Each (λ w. w.from ≢ line_at e l) (row_wires (suc e) ps) =
    λ l. each_weaker (λ w. suc e ≤ w.from.element) (λ w. w.from ≢ line_at e l)
    (λ w low. apart_element w.from (line_at e l) (λ same. omega (arith, low, same))) (row_wires (suc e) ps)
    (row_wires_low (suc e) ps) in
    let first : target ws (line_at e east) ≡ p.0 = here.0 ∙ target_front (wires_from e east ts) (row_wires (suc e) ps)
    (line_at e east) (clear east) ∙ from_target e east ts 0 east p.0 refl refl in
    let second : target ws (line_at e west) ≡ p.1 = here.1 ∙ target_front (wires_from e east ts) (row_wires (suc e) ps)
    (line_at e west) (clear west) ∙ from_target e east ts 2 west p.1 refl refl in
    let rest = rows_are ws (suc e) ps (λ f low high. (let both = leads f (omega arith) (omega arith) in
    (both.0 ∙ skip f east low, both.1 ∙ skip f west low))) in
    (λ i. Row (first i) (second i) ∷ rest i)
  where
    skip : (f l : ℕ) → suc e ≤ f → target (wires_from e east (row_targets p.0 p.1) ++ row_wires (suc e) ps)
        (line_at f l) ≡ target (row_wires (suc e) ps) (line_at f l)
    skip f l low =
        target_behind (wires_from e east (row_targets p.0 p.1)) (row_wires (suc e) ps) (line_at f l)
        (each_weaker (λ w. w.from.element ≡ e) (λ w. w.from ≢ line_at f l)
        (λ w is. apart_element w.from (line_at f l) (λ same. omega (arith, is, same)))
        (wires_from e east (row_targets p.0 p.1)) (wires_of_element e east (row_targets p.0 p.1)))

not_inner_side : (b k r l : ℕ) (to : Line) → r < k → (l ≡ east) ⊎ (l ≡ west) → IsInner b k (line_at (b + r) l) to → ⊥
not_inner_side b k r l to below side (down i low leaves ends) = let lines : l ≡ south =
    ap (λ (x : Line). x.line) leaves in elim side [ inl is ↦ omega arith | inr is ↦ omega arith ]
not_inner_side b k r l to below side (up i low leaves ends) = let lines : l ≡ north =
    ap (λ (x : Line). x.line) leaves in elim side [ inl is ↦ omega arith | inr is ↦ omega arith ]
not_inner_side b k r l to below side (under leaves ends) = let lines : l ≡ south =
    ap (λ (x : Line). x.line) leaves in elim side [ inl is ↦ omega arith | inr is ↦ omega arith ]
not_inner_side b k r l to below side (over leaves ends) = let elements : b + r ≡ b + k =
    ap (λ (x : Line). x.element) leaves in omega arith
not_inner_side b k r l to below side (top leaves ends) = let lines : l ≡ north =
    ap (λ (x : Line). x.line) leaves in elim side [ inl is ↦ omega arith | inr is ↦ omega arith ]

not_inner_bottom : (b k : ℕ) (to : Line) → IsInner b k (line_at (b + k) east) to → ⊥
not_inner_bottom b k to (down i low leaves ends) = let lines : east ≡ south =
    ap (λ (x : Line). x.line) leaves in omega arith
not_inner_bottom b k to (up i low leaves ends) = let lines : east ≡ north =
    ap (λ (x : Line). x.line) leaves in omega arith
not_inner_bottom b k to (under leaves ends) = let lines : east ≡ south = ap (λ (x : Line). x.line) leaves in omega arith
not_inner_bottom b k to (over leaves ends) = let lines : east ≡ west = ap (λ (x : Line). x.line) leaves in omega arith
not_inner_bottom b k to (top leaves ends) = let lines : east ≡ north = ap (λ (x : Line). x.line) leaves in omega arith

module _ (h : Header) (all : List Sentence) (none : (e : ℕ) → IsSpelledOut (header_then h all) e → ⊥) where
  abbrev said : Spelling
  said = said_by h all

  -- how the lines divide at an entry
  pub record IsAt (done rows : List Sentence) (e : ℕ) : Type 0 where
    pub lines : all ≡ done ++ rows
    pub made : length done ≡ e
    pub states : length (bars_in done) ≡ e
    pub count : e + length rows ≡ h.count
    pub before : Each (λ w. w.from.element < e) (wires_after 6 done)
    pub faultless : AreFaultlessAfter (header_then h done) rows

  said_wires : (done rows : List Sentence) (e i : ℕ) → IsAt done rows e → i ≡ e + 6
      → said.wires ≡ wires_after 6 done ++ wires_after i rows
  said_wires done rows e i is at_e =
      let place : 6 + length done ≡ i = (let made : length done ≡ e = is.made in omega arith) in
      ap (wires_after 6) is.lines ∙ wires_after-append 6 done rows
      ∙ ap (λ (n : ℕ). wires_after 6 done ++ wires_after n rows) place

  said_states : (done rows : List Sentence) (e : ℕ) → IsAt done rows e
      → said.config.states ≡ bars_in done ++ bars_in rows
  said_states done rows e is = ap bars_in is.lines ∙ states_in-append done rows

  -- the wires of later elements are those of the entries that are left
  later_target : (done rows : List Sentence) (e i : ℕ) → IsAt done rows e → i ≡ e + 6 → (f l : ℕ) → e ≤ f
      → target said.wires (line_at f l) ≡ target (wires_after i rows) (line_at f l)
  later_target done rows e i is at_e f l low =
      ap (λ (ws : List Wire). target ws (line_at f l)) (said_wires done rows e i is at_e)
      ∙ target_behind (wires_after 6 done) (wires_after i rows) (line_at f l)
      (each_weaker (λ w. w.from.element < e) (λ w. w.from ≢ line_at f l)
      (λ w earlier. apart_element w.from (line_at f l) (λ same. omega (arith, earlier, same))) (wires_after 6 done)
      is.before)

  pub entries : (done rows : List Sentence) (e : ℕ) → Blocks rows → IsAt done rows e → AreEntries h.version said e rows
  entries done rows e (no_block empty) is = let count : e + length rows ≡ h.count =
      is.count in let none_left : length rows ≡ 0 = ap length empty in no_entry (omega arith) empty
  entries done rows e (single n q ts rest lines more) is =
      let g : AreFaultlessAfter (header_then h done) (Element n q ts ∷ rest) =
      subst (AreFaultlessAfter (header_then h done)) lines is.faultless in
      let line = element_line h done n q ts g.0 g.1 in
      let number : n ≡ length done = line.number in
      let made : length done ≡ e = is.made in
      let same : n ≡ e = omega arith in
      let made_states : length (bars_in done) ≡ e = is.states in
      let count : e + length rows ≡ h.count = is.count in
      let rows_count : length rows ≡ suc (length rest) = ap length lines in
      let made_more = length_more done (Element n q ts) in
      let first_line : ℕ = e + 6 in
      let behind = blocks_low h (done ++ Element n q ts ∷ []) rest (suc e) (suc first_line) more (omega arith)
      (omega arith) g.2 in
      let targets : targets_of said.wires n ≡ ts = four_targets said.wires n ts line.four (λ i x has.
      later_target done rows e first_line is refl n i (omega arith)
      ∙ ap (λ (zs : List Sentence). target (wires_after first_line zs) (line_at n i)) lines
      ∙ target_front (wires_from n 0 ts) (wires_after (suc first_line) rest) (line_at n i)
      (each_weaker (λ w. suc e ≤ w.from.element) (λ w. w.from ≢ line_at n i)
      (λ w low. apart_element w.from (line_at n i) (λ eq. omega (arith, low, eq)))
      (wires_after (suc first_line) rest) behind)
      ∙ from_target n 0 ts i i x (omega arith) has)
      in
      let state_at : slice_get said.config.states e ≡ Some q =
      ap (λ (qs : List ℕ). slice_get qs e) (said_states done rows e is
      ∙ ap (λ (zs : List Sentence). bars_in done ++ bars_in zs) lines)
      ∙ get_behind (bars_in done) (q ∷ bars_in rest) 0 e (omega arith)
      in
      let here : Element n q ts ≡ Element e q (targets_of said.wires e) =
      ap (Element n q) (sym targets) ∙ ap (λ (m : ℕ). Element m q (targets_of said.wires m)) same in
      let split : all ≡ (done ++ Element n q ts ∷ []) ++ rest =
      is.lines ∙ ap (λ (zs : List Sentence). done ++ zs) lines
      ∙ sym (append_assoc done (Element n q ts ∷ []) rest) in
      let states_more : length (bars_in (done ++ Element n q ts ∷ [])) ≡ suc e =
      ap length (states_in-append done (Element n q ts ∷ [])) ∙ length-append (bars_in done) (q ∷ [])
      ∙ omega arith in
      let wires_more : wires_after 6 (done ++ Element n q ts ∷ []) ≡ wires_after 6 done ++ wires_from n 0 ts =
      wires_after-more 6 done (Element n q ts) in
      let before_more : Each (λ w. w.from.element < suc e) (wires_after 6 (done ++ Element n q ts ∷ [])) =
      subst (Each (λ w. w.from.element < suc e)) (sym wires_more)
      (each_append (λ w. w.from.element < suc e) (wires_after 6 done) (wires_from n 0 ts)
      (each_weaker (λ w. w.from.element < e) (λ w. w.from.element < suc e) (λ w low. omega (arith, low))
      (wires_after 6 done) is.before)
      (each_weaker (λ w. w.from.element ≡ n) (λ w. w.from.element < suc e) (λ w at_n. omega (arith, at_n))
      (wires_from n 0 ts) (wires_of_element n 0 ts)))
      in
      let next : IsAt (done ++ Element n q ts ∷ []) rest (suc e) =
      record {
        lines = split;
        made = omega arith;
        states = states_more;
        count = omega arith;
        before = before_more;
        faultless = g.2;
      } in
      element_entry q rest state_at
      (λ k written. none e (record {
        second = written.second;
        state = q;
        targets = ts;
        has_line = line_there e n q ts rest same (is.lines ∙ ap (λ (zs : List Sentence). done ++ zs) lines) made;
        column = (k, written.column);
      }))
      (lines ∙ ap (λ (z : Sentence). z ∷ rest) here)
      (entries (done ++ Element n q ts ∷ []) rest (suc e) more next)
    where
      line_there : (e n q : ℕ) (ts : List (Option Line)) (rest : List Sentence) → n ≡ e
          → all ≡ done ++ Element n q ts ∷ rest → length done ≡ e
          → slice_get (header_then h all) (header_lines + e) ≡ Some (Element e q ts)
      line_there e n q ts rest same is made =
          let place : header_lines + e ≡ suc (suc (suc (suc (suc (suc e))))) = omega arith in
          ap (λ (m : ℕ). slice_get (header_then h all) m) place
          ∙ ap (λ (zs : List Sentence). slice_get zs e) is
          ∙ get_behind done (Element n q ts ∷ rest) 0 e (omega arith)
          ∙ ap (λ (m : ℕ). Some (Element m q ts)) same
  entries done rows e (group b k q sides rest count_sides lines more) is =
      let x : Sentence = Column b k q in
      let g : AreFaultlessAfter (header_then h done) (x ∷ (row_lines sides ++ rest)) =
      subst (AreFaultlessAfter (header_then h done)) lines is.faultless in
      let line = column_line h done b k q g.0 g.1 in
      let number : b ≡ length done = line.number in
      let made : length done ≡ e = is.made in
      let same : b ≡ e = omega arith in
      let there : b + k < h.count = line.there in
      let made_states : length (bars_in done) ≡ e = is.states in
      let count : e + length rows ≡ h.count = is.count in
      let group_is = group_said h done b k q sides (sym number) count_sides in
      let behind_f : AreFaultlessAfter (header_then h group_is.lines) rest =
      subst (λ (zs : List Sentence). AreFaultlessAfter (header_then h zs) rest) (sym group_is.are)
      (first_after (header_then h (done ++ x ∷ [])) (row_lines sides) rest g.2) in
      let first_line : ℕ = e + 6 in
      let next_line : ℕ = suc (b + k) + 6 in
      let behind = blocks_low h group_is.lines rest (suc (b + k)) next_line more group_is.count refl behind_f in
      let own : List Wire = inner_wires b k ++ row_wires b sides in
      let leads : (f l : ℕ) → e ≤ f → f ≤ b + k → target said.wires (line_at f l) ≡ target own (line_at f l) =
      λ f l low high.
      later_target done rows e first_line is refl f l low
      ∙ ap (λ (zs : List Sentence). target (wires_after first_line zs) (line_at f l)) lines
      ∙ ap (λ (ws : List Wire). target ws (line_at f l)) (sym (group_wires first_line next_line b k q sides rest
      (omega arith) refl count_sides))
      ∙ target_front own (wires_after next_line rest) (line_at f l)
      (each_weaker (λ w. suc (b + k) ≤ w.from.element) (λ w. w.from ≢ line_at f l)
      (λ w low_w. apart_element w.from (line_at f l) (λ eq. omega (arith, low_w, eq))) (wires_after next_line rest)
      behind)
      in
      let inner = inner-are b k line.some in
      let own_inner : (from to : Line) → IsInner b k from to → target said.wires from ≡ Some to = λ from to is_inner.
      leads from.element from.line (let low = inner_low b k from to is_inner in omega arith)
      (inner_high b k from to is_inner)
      ∙ target_some (inner_wires b k) (row_wires b sides) from to (inner.complete from to is_inner)
      in
      let no_east : target (inner_wires b k) (line_at (b + k) east) ≡ None =
      no_target (IsInner b k) (inner_wires b k) inner (line_at (b + k) east)
      (λ to is_inner. not_inner_bottom b k to is_inner) in
      let loose : target said.wires (line_at (b + k) east) ≡ None =
      leads (b + k) east (omega arith) (omega arith)
      ∙ target_after_none (inner_wires b k) (row_wires b sides) (line_at (b + k) east) no_east
      ∙ target-none (row_wires b sides) (line_at (b + k) east) (each_weaker (λ w. w.from.element < b + k)
      (λ w. w.from ≢ line_at (b + k) east) (λ w high. apart_element w.from (line_at (b + k) east)
      (λ eq. omega (arith, high, eq))) (row_wires b sides) (row_wires_high b (b + k) sides (omega arith)))
      in
      let states_are : said.config.states ≡ bars_in done ++ (replicate k vertical ++ q ∷ bars_in rest) =
      said_states done rows e is ∙ ap (λ (zs : List Sentence). bars_in done ++ bars_in zs) lines
      ∙ ap (λ (qs : List ℕ). bars_in done ++ (replicate k vertical ++ q ∷ qs)) (states_in-rows sides rest)
      in
      let upright : (r : ℕ) → r < k → slice_get said.config.states (b + r) ≡ Some vertical = λ r below.
      ap (λ (qs : List ℕ). slice_get qs (b + r)) states_are
      ∙ get_behind (bars_in done) (replicate k vertical ++ q ∷ bars_in rest) r (b + r) (omega arith)
      ∙ get_replicate k r (q ∷ bars_in rest) below
      in
      let bottom : slice_get said.config.states (b + k) ≡ Some q =
      ap (λ (qs : List ℕ). slice_get qs (b + k)) states_are
      ∙ get_behind (bars_in done) (replicate k vertical ++ q ∷ bars_in rest) k (b + k) (omega arith)
      ∙ get_behind (replicate k vertical) (q ∷ bars_in rest) 0 k
      (let first = length-replicate k vertical in omega arith)
      in
      let column : IsColumnAt (circuit_of said) said.config.states b k =
      record {
        some = line.some;
        column = record { rotaries = λ r low. rotary_at h.count (b + r) (omega arith); wired = own_inner };
        loose = loose;
        upright = upright;
      }
      in
      let side : (f l : ℕ) → b ≤ f → f < b + length sides → (l ≡ east) ⊎ (l ≡ west)
      → target said.wires (line_at f l) ≡ target (row_wires b sides) (line_at f l) = λ f l low high which.
      leads f l (omega arith) (omega arith)
      ∙ target_after_none (inner_wires b k) (row_wires b sides) (line_at f l)
      (no_side f l low (omega arith) which line.some)
      in
      let cells : row_sentences said.wires b (length sides) ≡ row_lines sides =
      rows_are said.wires b sides (λ f low high. (side f east low high (inl refl), side f west low high (inr refl)))
      in
      let cells_k : row_sentences said.wires b k ≡ row_lines sides =
      ap (λ (m : ℕ). row_sentences said.wires b m) (sym count_sides) ∙ cells in
      let split : all ≡ group_is.lines ++ rest = is.lines ∙ ap (λ (zs : List Sentence). done ++ zs) lines
      ∙ sym (append_assoc done (x ∷ []) (row_lines sides ++ rest))
      ∙ sym (append_assoc (done ++ x ∷ []) (row_lines sides) rest)
      ∙ ap (λ (zs : List Sentence). zs ++ rest) (sym group_is.are) in
      let lengths = length-append group_is.lines rest in
      let all_split : length done + length rows ≡ length group_is.lines + length rest =
      sym (length-append done rows) ∙ ap length (sym is.lines ∙ split) ∙ lengths in
      let group_count : length group_is.lines ≡ suc (b + k) = group_is.count in
      let states_more : length (bars_in group_is.lines) ≡ suc (b + k) =
      ap (λ (zs : List Sentence). length (bars_in zs)) group_is.are
      ∙ ap length (states_in-append (done ++ x ∷ []) (row_lines sides)
      ∙ ap (λ (qs : List ℕ). qs ++ bars_in (row_lines sides)) (states_in-append done (x ∷ [])))
      ∙ length-append (bars_in done ++ (replicate k vertical ++ q ∷ [])) (bars_in (row_lines sides))
      ∙ (let a = length-append (bars_in done) (replicate k vertical ++ q ∷ []) in let c = length-append
      (replicate k vertical) (q ∷ []) in let d = length-replicate k vertical in let z : length
      (bars_in (row_lines sides)) ≡ 0 = ap length (ap bars_in (sym (append-nil (row_lines sides)))
      ∙ states_in-rows sides []) in omega arith)
      in
      let before_more : Each (λ w. w.from.element < suc (b + k)) (wires_after 6 group_is.lines) =
      subst (Each (λ w. w.from.element < suc (b + k))) (sym group_is.wires)
      (each_append (λ w. w.from.element < suc (b + k)) (wires_after 6 done) (inner_wires b k ++ row_wires b sides)
      (each_weaker (λ w. w.from.element < e) (λ w. w.from.element < suc (b + k)) (λ w low. omega (arith, low))
      (wires_after 6 done) is.before)
      (each_append (λ w. w.from.element < suc (b + k)) (inner_wires b k) (row_wires b sides)
      (each_weaker (λ w. IsInner b k w.from w.to) (λ w. w.from.element < suc (b + k))
      (λ w own_w. (let high = inner_high b k w.from w.to own_w in omega arith)) (inner_wires b k)
      (inner_each b k line.some))
      (row_wires_high b (suc (b + k)) sides (omega arith))))
      in
      let next : IsAt group_is.lines rest (suc (b + k)) = record {
        lines = split;
        made = group_count;
        states = states_more;
        count = omega arith;
        before = before_more;
        faultless = behind_f;
      } in
      let rest_entries : AreEntries h.version said (suc (b + k)) rest =
      entries group_is.lines rest (suc (b + k)) more next in
      let at_b : AreEntries h.version said b rows = column_entry k q rest
      (record { second = line.second; column = column }) bottom
      (lines ∙ ap (λ (zs : List Sentence). Column b k q ∷ (zs ++ rest)) (sym cells_k)) rest_entries in
      subst (λ (n : ℕ). AreEntries h.version said n rows) same at_b
    where
      no_side : (f l : ℕ) → b ≤ f → f < b + k → (l ≡ east) ⊎ (l ≡ west) → 0 < k
          → target (inner_wires b k) (line_at f l) ≡ None
      no_side f l low high which some =
          let r = f - b in
          let place : f ≡ b + r = omega arith in
          no_target (IsInner b k) (inner_wires b k) (inner-are b k some) (line_at f l)
          (λ to inner. not_inner_side b k r l to (omega arith) which
          (subst (λ (n : ℕ). IsInner b k (line_at n l) to) place inner))
