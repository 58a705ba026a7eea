-- Each text spells a configuration or has a first fault: it is read line by line.
use Rattle.std.specs.Prelude.{◌≡◌, ◌≢◌, ℕ, ◌+◌, ◌-◌, ◌<◌, ◌≤◌, nat_lt, nat_le, ◌==◌, Bool, true, false, List, [], ◌∷◌}
use Rattle.std.specs.Prelude.{◌++◌, length, slice_get, Option, Some, None, is_some, option_map, if◌then◌else◌, codes}
use Rattle.std.specs.Prelude.{decimal, slice_index, refl}
use Rattle.std.proofs.Common.{zero, suc, arith, sym, ap, subst, ◌∙◌, inl, inr, ◌⊎◌}
use Rattle.std.proofs.lemmas.Bool.{cases_lt, cases_eq}
use Rattle.std.proofs.lemmas.Bool.Decides.{eqb_tells}
use Rattle.std.proofs.lemmas.List.{append-nil, append_assoc, length-append}
use Rattle.std.proofs.lemmas.List.Elements.{All-nil, All-cons}
use Rattle.std.proofs.lemmas.Option.{option_and_then_some, same_Some, slice_get_within}
use Rattle.bn_lists.specs.Lists.{IsLeast}
use Rattle.bn_base.specs.Line.{IsInLine}
use Rattle.bn_base.specs.Number.{greatest}
use Rattle.bn_base.proofs.LineLemmas.{lines-agree, cut-lines-differ}
use Rattle.bn_circuits.specs.Circuits.{source}
use Rattle.bn_circuits.specs.declared.line.Line.{Line}
use Rattle.bn_circuits.specs.declared.line.Wire.{Wire}
use Rattle.bn_circuits.specs.declared.place.Place.TheVariants.{Enter, Left}
use Rattle.bn_element.specs.Rotary.{east}
use Rattle.bn_netlist_laws.specs.Sentences.{AreNameable, target_text, targets_text, bar_letters}
use Rattle.bn_netlist_laws.specs.Spelling.{Spelling}
use Rattle.bn_netlist_laws.specs.Faults.{element_at}
use Rattle.bn_netlist_laws.specs.Reading.{word_taken, number_taken, bar_taken, target_taken, ended, number_after}
use Rattle.bn_netlist_laws.specs.Reading.{named_after, element_of, named, named_target}
use Rattle.bn_netlist_laws.proofs.LineReadingLemmas.{word_taken-takes, number_taken-takes, bar_taken-takes}
use Rattle.bn_netlist_laws.proofs.LineReadingLemmas.{target_taken-takes, nameable_both}
use Rattle.bn_netlist_laws.proofs.FormLemmas.{ended-takes, number_after-takes, named_after-takes, element_of-takes}
use Rattle.bn_netlist_laws.specs.Columns.{inner_wires}
use Rattle.bn_netlist_laws.specs.Sentences.{Sentence, Title, Count, Start, End, Steps, At, Element, Column, title_text}
use Rattle.bn_netlist_laws.specs.Sentences.{IsSayable, sentence_text, lines_text}
use Rattle.bn_netlist_laws.specs.Sentences as sentences
use Rattle.bn_netlist_laws.specs.Spelling.{Spelled, most_elements}
use Rattle.bn_netlist_laws.specs.Faults.{Fault, malformed, too_many, no_element, out_of_order, end_wired, left_wired}
use Rattle.bn_netlist_laws.specs.Faults.{start_fed, second_source, spelled_out, header_lines, version_in, count_in}
use Rattle.bn_netlist_laws.specs.Faults.{is_end_in, is_left_in, is_start_in, wires_in, bars_in, row_targets}
use Rattle.bn_netlist_laws.specs.Faults.{next_number, row_number, wire_fault, or_else, outputs_fault, some_wire}
use Rattle.bn_netlist_laws.specs.Faults.{inner_fault, fault_of, kind_of, kind_after, IsOfVersion, IsNext}
use Rattle.bn_netlist_laws.specs.Faults.{AreFaultlessAfter, AreFaultless, IsFaulty, BeginsWithFault, IsFirstBadLine}
use Rattle.bn_netlist_laws.specs.Faults.{AreWhole, IsSpelledOut, IsFirstFault, TextsSpellOrFault}
use Rattle.bn_netlist_laws.specs.Saying.{column_of, sides_of, first_some, version_said, title_said, count_said}
use Rattle.bn_netlist_laws.specs.Saying.{start_said, end_said, steps_said, place_said_by, place_said, element_sentence}
use Rattle.bn_netlist_laws.specs.Saying.{element_said, column_said, entry_said, row_said, said}
use Rattle.bn_netlist_laws.specs.declared.element_line.ElementLine.{ElementLine}
use Rattle.bn_netlist_laws.specs.declared.version.Version.{Version}
use Rattle.bn_netlist_laws.specs.declared.version.Version.TheVariants.{One, Two}
use Rattle.bn_netlist_laws.proofs.ColumnLemmas.{column_or_none}
use Rattle.bn_netlist_laws.proofs.SentenceLemmas.{said-again, sentence_text-in_line}
use Rattle.bn_netlist_laws.proofs.TextLemmas.{lines_text-append}
use Rattle.bn_netlist_laws.proofs.SpellsLemmas.{whole-spells}
use Rattle.bn_netlist_laws.proofs.AdmittedLemmas.{element_version}

-- ---- what a line says is written as the line

-- the line says this, as one of this kind and of this version
pub record Says (v : Version) (k : ℕ) (line : List ℕ) (x : Sentence) : Type 0 where
  pub sayable : IsSayable x
  pub kind : kind_of x ≡ k
  pub version : IsOfVersion v x
  pub written : line ≡ sentence_text x

none_said : (x : Sentence) → ◌≡◌ {A = Option Sentence} None (Some x) → ⊥
none_said x e = cc

mapped : {A : Type 0} (f : A → Sentence) (o : Option A) (x : Sentence) → option_map f o ≡ Some x
    → (a : A) × (o ≡ Some a) × (f a ≡ x)
mapped f None x h = absurd (none_said x h)
mapped f (Some a) x h = (a, refl, same_Some (f a) x h)

first_of_two : (a b : Option Sentence) (x : Sentence) → first_some a b ≡ Some x → (a ≡ Some x) ⊎ (b ≡ Some x)
first_of_two None b x h = inr h
first_of_two (Some y) b x h = inl h

any_version : (v : Version) (x : Sentence) → kind_of x < 6 → IsOfVersion v x
any_version One (Title w) h = tt
any_version One (Count c) h = tt
any_version One (Start l) h = tt
any_version One (End l) h = tt
any_version One (Steps t) h = tt
any_version One (At p) h = tt
any_version One (Element n q xs) h = tt
any_version One (Column e k q) h = absurd (omega arith)
any_version One (sentences.Row x y) h = tt
any_version Two x h = two_says x
  where
    two_says : (x : Sentence) → IsOfVersion Two x
    two_says x = tt

version_ends : (w : Version) (behind : List ℕ) (x : Sentence) → ended (Title w, behind) ≡ Some x
    → (Title w ≡ x) × (behind ≡ [])
version_ends w [] x h = (same_Some (Title w) x h, refl)
version_ends w (b ∷ behind) x h =
    elim (eqb_tells (length (b ∷ behind)) 0) [
      | inl same ↦ absurd (let none : length (b ∷ behind) ≡ 0 = same.1 in omega arith)
      | inr other ↦ absurd (none_said x (rw other.0 at h))
    ]

version_takes : (v w : Version) (line : List ℕ) (x : Sentence) → version_said w line ≡ Some x → Says v 0 line x
version_takes v w line x h =
    option_and_then_some _ (word_taken (title_text w) line) x h (λ behind b_is h1.
    let last = version_ends w behind x h1 in
    let whole : line ≡ title_text w = word_taken-takes (title_text w) line behind b_is
    ∙ ap (λ r. title_text w ++ r) last.1 ∙ append-nil (title_text w) in
    subst (Says v 0 line) last.0 (record {
      sayable = tt;
      kind = refl;
      version = any_version v (Title w) (omega arith);
      written = whole;
    }))

title_takes : (v : Version) (line : List ℕ) (x : Sentence) → title_said line ≡ Some x → Says v 0 line x
title_takes v line x h =
    elim (first_of_two (version_said One line) (version_said Two line) x h) [
      | inl one ↦ version_takes v One line x one
      | inr two ↦ version_takes v Two line x two
    ]

above : (n : ℕ) → n ≢ 0 → 0 < n
above zero other = absurd (other refl)
above (suc n) other = omega arith

count_takes : (v : Version) (line : List ℕ) (x : Sentence) → count_said line ≡ Some x → Says v 1 line x
count_takes v line x h =
    option_and_then_some _ (number_after (codes "elements ") line) x h (λ n n_is h1.
    let taken = number_after-takes (codes "elements ") line n n_is in
    elim (eqb_tells n 0) [
      | inl none ↦ absurd (none_said x (rw none.0 at h1))
      | inr some ↦
          (let same : Count n ≡ x = same_Some (Count n) x (rw some.0 at h1) in
          subst (Says v 1 line) same (record {
            sayable = (above n some.1, taken.0);
            kind = refl;
            version = any_version v (Count n) (omega arith);
            written = taken.1;
          }))
    ])

start_takes : (v : Version) (line : List ℕ) (x : Sentence) → start_said line ≡ Some x → Says v 2 line x
start_takes v line x h =
    let from = mapped (λ l. Start (named l)) (named_after (codes "start ") line) x h in
    let taken = named_after-takes (codes "start ") line from.0 from.1 in
    subst (Says v 2 line) from.2 (record {
      sayable = taken.0;
      kind = refl;
      version = any_version v (Start (named from.0)) (omega arith);
      written = taken.1;
    })

end_takes : (v : Version) (line : List ℕ) (x : Sentence) → end_said line ≡ Some x → Says v 3 line x
end_takes v line x h =
    let from = mapped (λ l. End (named l)) (named_after (codes "end ") line) x h in
    let taken = named_after-takes (codes "end ") line from.0 from.1 in
    subst (Says v 3 line) from.2 (record {
      sayable = taken.0;
      kind = refl;
      version = any_version v (End (named from.0)) (omega arith);
      written = taken.1;
    })

steps_takes : (v : Version) (line : List ℕ) (x : Sentence) → steps_said line ≡ Some x → Says v 4 line x
steps_takes v line x h =
    let from = mapped Steps (number_after (codes "steps ") line) x h in
    let taken = number_after-takes (codes "steps ") line from.0 from.1 in
    subst (Says v 4 line) from.2 (record {
      sayable = taken.0;
      kind = refl;
      version = any_version v (Steps from.0) (omega arith);
      written = taken.1;
    })

place_takes : (v : Version) (line : List ℕ) (x : Sentence) → place_said line ≡ Some x → Says v 5 line x
place_takes v line x h = by_enter (named_after (codes "at ") line) refl h
  where
    by_enter : (o : Option (ℕ × ℕ)) → named_after (codes "at ") line ≡ o
        → place_said_by o (named_after (codes "left ") line) ≡ Some x → Says v 5 line x
    by_enter (Some l) is h =
        let taken = named_after-takes (codes "at ") line l is in
        let same : At (Enter l.0 l.1) ≡ x = same_Some (At (Enter l.0 l.1)) x h in
        subst (Says v 5 line) same (record {
          sayable = taken.0;
          kind = refl;
          version = any_version v (At (Enter l.0 l.1)) (omega arith);
          written = taken.1;
        })
    by_enter None is h =
        let from = mapped (λ l. At (Left l.0 l.1)) (named_after (codes "left ") line) x h in
        let taken = named_after-takes (codes "left ") line from.0 from.1 in
        subst (Says v 5 line) from.2 (record {
          sayable = taken.0;
          kind = refl;
          version = any_version v (At (Left from.0.0 from.0.1)) (omega arith);
          written = taken.1;
        })

row_version : (v : Version) (x y : Option Line) → IsOfVersion v (sentences.Row x y)
row_version One x y = tt
row_version Two x y = tt

element_takes : (v : Version) (line : List ℕ) (x : Sentence) → element_said line ≡ Some x → Says v 6 line x
element_takes v line x h =
    let from = mapped_element (element_of line) x h in
    let taken = element_of-takes line from.0 from.1 in
    subst (Says v 6 line) from.2 (record {
      sayable = taken.0;
      kind = refl;
      version = element_version v _ _ _;
      written = taken.1;
    })
  where
    mapped_element : (o : Option ElementLine) (x : Sentence) → option_map element_sentence o ≡ Some x
        → (t : ElementLine) × (o ≡ Some t) × (element_sentence t ≡ x)
    mapped_element None x h = absurd (none_said x h)
    mapped_element (Some t) x h = (t, refl, same_Some (element_sentence t) x h)

pub column_of-takes : (line : List ℕ) (c : ℕ × ℕ × ℕ) → column_of line ≡ Some c
    → (c.0 ≤ greatest) × (c.1 ≤ greatest) × (c.2 < 2) × (line ≡ sentence_text (Column c.0 c.1 c.2))
unfolding column_of
column_of-takes line c h =
    option_and_then_some _ (word_taken (codes "c ") line) c h (λ first f_is h1.
    option_and_then_some _ (number_taken first) c h1 (λ element e_is h2.
    option_and_then_some _ (word_taken (codes " ") element.1) c h2 (λ second s_is h3.
    option_and_then_some _ (number_taken second) c h3 (λ rows r_is h4.
    option_and_then_some _ (word_taken (codes " ") rows.1) c h4 (λ third t_is h5.
    option_and_then_some _ (bar_taken third) c h5 (λ bar b_is h6.
    let made : ℕ × ℕ × ℕ = (element.0, rows.0, bar.0) in
    let word = word_taken-takes (codes "c ") line first f_is in
    let e = number_taken-takes first element.1 element.0 e_is in
    let space = word_taken-takes (codes " ") element.1 second s_is in
    let r = number_taken-takes second rows.1 rows.0 r_is in
    let other = word_taken-takes (codes " ") rows.1 third t_is in
    let b = bar_taken-takes third bar.1 bar.0 b_is in
    let last = ended-takes (made, bar.1) c h6 in
    let whole : line ≡ sentence_text (Column element.0 rows.0 bar.0) =
    word ∙ ap (λ t. codes "c " ++ t) (e.1 ∙ ap (λ t. decimal element.0 ++ t)
    (space ∙ ap (λ t. codes " " ++ t) (r.1 ∙ ap (λ t. decimal rows.0 ++ t)
    (other ∙ ap (λ t. codes " " ++ t) (b.1 ∙ ap (λ t. slice_index bar_letters bar.0 ∷ t) last.1)))))
    in
    let P : ℕ × ℕ × ℕ → Type 0 = λ d. (d.0 ≤ greatest) × (d.1 ≤ greatest) × (d.2 < 2)
    × (line ≡ sentence_text (Column d.0 d.1 d.2)) in
    subst P last.0 (e.0, r.0, b.0, whole)))))))

column_takes : (line : List ℕ) (x : Sentence) → column_said line ≡ Some x → Says Two 6 line x
column_takes line x h =
    option_and_then_some _ (column_of line) x h (λ c c_is h1.
    let taken = column_of-takes line c c_is in
    elim (eqb_tells c.1 0) [
      | inl none ↦ absurd (none_said x (rw none.0 at h1))
      | inr some ↦
          (let same : Column c.0 c.1 c.2 ≡ x = same_Some (Column c.0 c.1 c.2) x (rw some.0 at h1) in
          subst (Says Two 6 line) same (record {
            sayable = (taken.0, above c.1 some.1, taken.1, taken.2);
            kind = refl;
            version = tt;
            written = taken.3;
          }))
    ])

entry_takes : (v : Version) (line : List ℕ) (x : Sentence) → entry_said v line ≡ Some x → Says v 6 line x
entry_takes One line x h = element_takes One line x h
entry_takes Two line x h =
    elim (first_of_two (element_said line) (column_said line) x h) [
      | inl element ↦ element_takes Two line x element
      | inr column ↦ column_takes line x column
    ]

pub sides_of-takes : (line : List ℕ) (p : Option (ℕ × ℕ) × Option (ℕ × ℕ)) → sides_of line ≡ Some p
    → AreNameable (named_target p.0 ∷ named_target p.1 ∷ []) × (line
    ≡ sentence_text (sentences.Row (named_target p.0) (named_target p.1)))
unfolding sides_of
sides_of-takes line p h =
    option_and_then_some _ (word_taken (codes "r") line) p h (λ first f_is h1.
    option_and_then_some _ (target_taken first) p h1 (λ x x_is h2.
    option_and_then_some _ (target_taken x.1) p h2 (λ y y_is h3.
    let made : Option (ℕ × ℕ) × Option (ℕ × ℕ) = (x.0, y.0) in
    let word = word_taken-takes (codes "r") line first f_is in
    let one = target_taken-takes first x.1 x.0 x_is in
    let two = target_taken-takes x.1 y.1 y.0 y_is in
    let last = ended-takes (made, y.1) p h3 in
    let regroup : codes " " ++ (target_text (named_target x.0) ++ (codes " " ++ (target_text (named_target y.0) ++ [])))
    ≡ targets_text (named_target x.0 ∷ named_target y.0 ∷ []) = refl in
    let whole : line ≡ sentence_text (sentences.Row (named_target x.0) (named_target y.0)) =
    word ∙ ap (λ t. codes "r" ++ t) (one.1 ∙ ap (λ t. codes " " ++ (target_text (named_target x.0) ++ t))
    (two.1 ∙ ap (λ t. codes " " ++ (target_text (named_target y.0) ++ t)) last.1) ∙ regroup)
    in
    let P : Option (ℕ × ℕ) × Option (ℕ × ℕ) → Type 0 = λ d. AreNameable (named_target d.0 ∷ named_target d.1 ∷ [])
    × (line ≡ sentence_text (sentences.Row (named_target d.0) (named_target d.1))) in
    subst P last.0 (nameable_both (named_target x.0) (named_target y.0 ∷ []) one.0 two.0, whole))))

row_takes : (v : Version) (line : List ℕ) (x : Sentence) → row_said line ≡ Some x → Says v 7 line x
row_takes v line x h =
    let from = mapped (λ (p : Option (ℕ × ℕ) × Option (ℕ × ℕ)). sentences.Row (named_target p.0) (named_target p.1))
    (sides_of line) x h in
    let taken = sides_of-takes line from.0 from.1 in
    subst (Says v 7 line) from.2 (record {
      sayable = taken.0;
      kind = refl;
      version = row_version v (named_target from.0.0) (named_target from.0.1);
      written = taken.1;
    })

pub said-takes : (v : Version) (k : ℕ) (line : List ℕ) (x : Sentence) → k ≤ 7 → said v k line ≡ Some x → Says v k line x
said-takes v zero line x small h = title_takes v line x h
said-takes v (suc zero) line x small h = count_takes v line x h
said-takes v (suc (suc zero)) line x small h = start_takes v line x h
said-takes v (suc (suc (suc zero))) line x small h = end_takes v line x h
said-takes v (suc (suc (suc (suc zero)))) line x small h = steps_takes v line x h
said-takes v (suc (suc (suc (suc (suc zero))))) line x small h = place_takes v line x h
said-takes v (suc (suc (suc (suc (suc (suc zero)))))) line x small h = entry_takes v line x h
said-takes v (suc (suc (suc (suc (suc (suc (suc zero))))))) line x small h = row_takes v line x h
said-takes v (suc (suc (suc (suc (suc (suc (suc (suc k)))))))) line x small h = absurd (omega arith)

-- ---- the fault of a line that has its form is one of a line

abbrev is_of_line : Fault → Bool
is_of_line malformed = false
is_of_line too_many = true
is_of_line no_element = true
is_of_line out_of_order = true
is_of_line end_wired = true
is_of_line left_wired = true
is_of_line start_fed = true
is_of_line second_source = true
is_of_line spelled_out = false

abbrev IsOfLine : Option Fault → Type 0
IsOfLine None = Unit {0}
IsOfLine (Some f) = is_of_line f ≡ true

if_of_line : (b : Bool) (x y : Option Fault) → IsOfLine x → IsOfLine y → IsOfLine (if b then x else y)
if_of_line true x y h k = h
if_of_line false x y h k = k

wire_of_line : (before : List Sentence) (ws : List Wire) (from to : Line) → IsOfLine (wire_fault before ws from to)
wire_of_line before ws from to =
    if_of_line (nat_lt to.element (count_in before)) _ _
    (if_of_line (is_end_in before from) _ _ refl
    (if_of_line (is_left_in before from) _ _ refl
    (if_of_line (is_start_in before to) _ _ refl
    (if_of_line (is_some (source ws to)) _ _ refl tt))))
    refl

or_of_line : (a b : Option Fault) → IsOfLine a → IsOfLine b → IsOfLine (or_else a b)
or_of_line None b h k = k
or_of_line (Some f) b h k = h

outputs_of_line : (before : List Sentence) (ws : List Wire) (e o : ℕ) (xs : List (Option Line))
    → IsOfLine (outputs_fault before ws e o xs)
outputs_of_line before ws e o [] = tt
outputs_of_line before ws e o (None ∷ xs) = outputs_of_line before ws e (suc o) xs
outputs_of_line before ws e o (Some to ∷ xs) =
    let from : Line = record { element = e; line = o } in
    let w : Wire = record { from = from; to = to } in
    or_of_line (wire_fault before ws from to) (outputs_fault before (ws ++ w ∷ []) e (suc o) xs)
    (wire_of_line before ws from to) (outputs_of_line before (ws ++ w ∷ []) e (suc o) xs)

inner_of_line : (before : List Sentence) (ws : List Wire) (bottom : ℕ) (inner : List Wire)
    → IsOfLine (inner_fault before ws bottom inner)
inner_of_line before ws bottom inner =
    if_of_line (nat_lt bottom (count_in before)) _ _
    (if_of_line (some_wire (λ w. is_end_in before w.from) inner) _ _ refl
    (if_of_line (some_wire (λ w. is_left_in before w.from) inner) _ _ refl
    (if_of_line (some_wire (λ w. is_start_in before w.to) inner) _ _ refl
    (if_of_line (some_wire (λ w. is_some (source ws w.to)) inner) _ _ refl tt))))
    refl

fault_of_line : (before : List Sentence) (x : Sentence) → IsOfLine (fault_of before x)
fault_of_line before (Title v) = tt
fault_of_line before (Count c) = if_of_line (nat_le c (most_elements (version_in before))) _ _ tt refl
fault_of_line before (Start l) = if_of_line (nat_lt l.element (count_in before)) _ _ tt refl
fault_of_line before (End l) = if_of_line (nat_lt l.element (count_in before)) _ _ tt refl
fault_of_line before (Steps t) = tt
fault_of_line before (At p) = if_of_line (nat_lt (element_at p) (count_in before)) _ _ tt refl
fault_of_line before (Element n q xs) = if_of_line (n == next_number (length before)) _ _
    (outputs_of_line before (wires_in before) n 0 xs) refl
fault_of_line before (Column e k q) = if_of_line (e == next_number (length before)) _ _
    (inner_of_line before (wires_in before) (e + k) (inner_wires e k)) refl
fault_of_line before (sentences.Row x y) = outputs_of_line before (wires_in before) (row_number (length before)) east
    (row_targets x y)

false_is_not_true : false ≡ true → ⊥
false_is_not_true e = cc

-- the fault of a line is none of those of other places
pub is_line_fault : (before : List Sentence) (x : Sentence) (fault : Fault) → fault_of before x ≡ Some fault
    → (fault ≢ malformed) × (fault ≢ spelled_out)
is_line_fault before x fault has =
    let of_line : is_of_line fault ≡ true = subst IsOfLine has (fault_of_line before x) in
    (λ e. false_is_not_true (sym (ap is_of_line e) ∙ of_line), λ e. false_is_not_true (sym (ap is_of_line e) ∙ of_line))

-- what is left begins with a fault of a line, and that is a first fault of the text
data Begins (before : List Sentence) (left : List ℕ) (f : Fault) : Type 0 where
  begins_with : f ≢ spelled_out → BeginsWithFault before left f → Begins before left f

apart_malformed : malformed ≢ spelled_out
apart_malformed e = cc

faulty-begins : (before : List Sentence) (left : List ℕ) (f : Fault) → is_of_line f ≡ true → IsFaulty before left f
    → Begins before left f
faulty-begins before left malformed of_line is = absurd (false_is_not_true of_line)
faulty-begins before left too_many of_line is = begins_with (λ e. let same = ap is_of_line e in false_is_not_true
    (sym same)) is
faulty-begins before left no_element of_line is = begins_with
    (λ e. let same = ap is_of_line e in false_is_not_true (sym same)) is
faulty-begins before left out_of_order of_line is = begins_with
    (λ e. let same = ap is_of_line e in false_is_not_true (sym same)) is
faulty-begins before left end_wired of_line is = begins_with
    (λ e. let same = ap is_of_line e in false_is_not_true (sym same)) is
faulty-begins before left left_wired of_line is = begins_with
    (λ e. let same = ap is_of_line e in false_is_not_true (sym same)) is
faulty-begins before left start_fed of_line is = begins_with
    (λ e. let same = ap is_of_line e in false_is_not_true (sym same)) is
faulty-begins before left second_source of_line is = begins_with
    (λ e. let same = ap is_of_line e in false_is_not_true (sym same)) is
faulty-begins before left spelled_out of_line is = absurd (false_is_not_true of_line)

-- ---- the next line

-- the bytes begin with a whole line, or hold no byte 10
data Cuts (left : List ℕ) : Type 0 where
  has_line : (line behind : List ℕ) → IsInLine line → left ≡ line ++ 10 ∷ behind → Cuts left
  no_line : IsInLine left → Cuts left

cuts : (left : List ℕ) → Cuts left
cuts [] = no_line (All-nil (λ byte. byte ≢ 10))
cuts (b ∷ left) =
    elim (eqb_tells b 10) [
      | inl same ↦ has_line [] left (All-nil (λ byte. byte ≢ 10)) (ap (λ (c : ℕ). c ∷ left) same.1)
      | inr other ↦ more other.1 (cuts left)
    ]
  where
    more : b ≢ 10 → Cuts left → Cuts (b ∷ left)
    more other (has_line line behind in_line is) = has_line (b ∷ line) behind
        (All-cons (λ byte. byte ≢ 10) b line other in_line) (ap (λ (bytes : List ℕ). b ∷ bytes) is)
    more other (no_line in_line) = no_line (All-cons (λ byte. byte ≢ 10) b left other in_line)

-- what comes next after these lines: a line without a fault, or one with a fault
data Goes (before : List Sentence) (left : List ℕ) : Type 0 where
  reads : (x : Sentence) (behind : List ℕ) → IsNext before x → fault_of before x ≡ None
      → left ≡ sentence_text x ++ 10 ∷ behind → Goes before left
  fails : (f : Fault) → Begins before left f → Goes before left

goes : (before : List Sentence) (left : List ℕ) → length before < header_lines + count_in before → Goes before left
goes before left room = by_cut (cuts left)
  where
    by_fault : (x : Sentence) (behind : List ℕ) → IsNext before x → left ≡ sentence_text x ++ 10 ∷ behind
        → (o : Option Fault) → fault_of before x ≡ o → Goes before left
    by_fault x behind next begins None is = reads x behind next is begins
    by_fault x behind next begins (Some f) is =
        fails f (faulty-begins before left f (subst IsOfLine is (fault_of_line before x))
        (record { says = x; behind = behind; begins = begins; next = next; has = is }))

    by_said : (line behind : List ℕ) → IsInLine line → left ≡ line ++ 10 ∷ behind → (o : Option Sentence)
        → said (version_in before) (kind_after before) line ≡ o → Goes before left
    by_said line behind in_line begins None is =
        fails malformed (begins_with apart_malformed (record {
          unsaid = unsaid;
          unfinished = λ whole. absurd (omega arith);
        }))
      where
        unsaid : (x : Sentence) (rest : List ℕ) → IsNext before x → left ≢ sentence_text x ++ 10 ∷ rest
        unsaid x rest next e =
            let both = lines-agree line (sentence_text x) behind rest in_line (sentence_text-in_line x next.sayable)
            (sym begins ∙ e) in
            let again : said (version_in before) (kind_after before) line ≡ Some x =
            (λ i. said (version_in before) (sym next.kind i) (both.0 i))
            ∙ said-again (version_in before) x next.sayable next.version in
            none_said x (sym is ∙ again)
    by_said line behind in_line begins (Some x) is =
        let says = said-takes (version_in before) (kind_after before) line x (omega arith) is in
        let next : IsNext before x = record {
          sayable = says.sayable;
          kind = says.kind;
          version = says.version;
          room = room;
        } in
        by_fault x behind next (begins ∙ ap (λ (b : List ℕ). b ++ 10 ∷ behind) says.written) (fault_of before x) refl

    by_cut : Cuts left → Goes before left
    by_cut (has_line line behind in_line is) = by_said line behind in_line is
        (said (version_in before) (kind_after before) line) refl
    by_cut (no_line in_line) =
        fails malformed (begins_with apart_malformed (record {
          unsaid = λ x behind next. cut-lines-differ left (sentence_text x) behind in_line;
          unfinished = λ whole. absurd (omega arith);
        }))

-- ---- all lines

-- the text begins with these lines, which have no fault, and this is left
record HasRead (text : List ℕ) (before : List Sentence) (left : List ℕ) : Type 0 where
  faultless : AreFaultless before
  begins : text ≡ lines_text before ++ left

pub faultless_more : (earlier xs : List Sentence) (x : Sentence) → AreFaultlessAfter earlier xs
    → IsNext (earlier ++ xs) x
    → fault_of (earlier ++ xs) x ≡ None → AreFaultlessAfter earlier (xs ++ x ∷ [])
faultless_more earlier [] x f next none =
    let same : earlier ++ [] ≡ earlier = append-nil earlier in (
      subst (λ (zs : List Sentence). IsNext zs x) same next,
      subst (λ (zs : List Sentence). fault_of zs x ≡ None) same none,
      tt,
    )
faultless_more earlier (y ∷ xs) x f next none =
    let same : earlier ++ y ∷ xs ≡ (earlier ++ y ∷ []) ++ xs = sym (append_assoc earlier (y ∷ []) xs) in (
      f.0,
      f.1,
      faultless_more (earlier ++ y ∷ []) xs x f.2 (subst (λ (zs : List Sentence). IsNext zs x) same next)
          (subst (λ (zs : List Sentence). fault_of zs x ≡ None) same none),
    )

text_more : (text : List ℕ) (xs : List Sentence) (x : Sentence) (left behind : List ℕ) → text ≡ lines_text xs ++ left
    → left ≡ sentence_text x ++ 10 ∷ behind → text ≡ lines_text (xs ++ x ∷ []) ++ behind
text_more text xs x left behind h k =
    let one : lines_text (x ∷ []) ++ behind ≡ sentence_text x ++ 10 ∷ behind =
    append_assoc (sentence_text x) (10 ∷ []) behind in
    h ∙ ap (λ t. lines_text xs ++ t) (k ∙ sym one) ∙ sym (append_assoc (lines_text xs) (lines_text (x ∷ [])) behind)
    ∙ ap (λ t. t ++ behind) (sym (lines_text-append xs (x ∷ [])))

count_in-more : (before : List Sentence) (x : Sentence) → count_in before ≤ count_in (before ++ x ∷ [])
count_in-more [] x = omega arith
count_in-more (Title v ∷ xs) x = count_in-more xs x
count_in-more (Count c ∷ xs) x = omega arith
count_in-more (Start l ∷ xs) x = count_in-more xs x
count_in-more (End l ∷ xs) x = count_in-more xs x
count_in-more (Steps t ∷ xs) x = count_in-more xs x
count_in-more (At p ∷ xs) x = count_in-more xs x
count_in-more (Element n q ts ∷ xs) x = count_in-more xs x
count_in-more (Column e k q ∷ xs) x = count_in-more xs x
count_in-more (sentences.Row y z ∷ xs) x = count_in-more xs x

-- a text spells a configuration or has a first fault
abbrev Outcome : List ℕ → Type 0
Outcome text = ((v : Version) × (s : Spelling) × Spelled v s text)
    ⊎ ((line : ℕ) × (fault : Fault) × IsFirstFault text line fault)

bad_line_first : (text : List ℕ) (line : ℕ) (f : Fault) → f ≢ spelled_out → IsFirstBadLine text line f
    → IsFirstFault text line f
bad_line_first text line malformed apart is = is
bad_line_first text line too_many apart is = is
bad_line_first text line no_element apart is = is
bad_line_first text line out_of_order apart is = is
bad_line_first text line end_wired apart is = is
bad_line_first text line left_wired apart is = is
bad_line_first text line start_fed apart is = is
bad_line_first text line second_source apart is = is
bad_line_first text line spelled_out apart is = absurd (apart refl)

failed : (text : List ℕ) (before : List Sentence) (left : List ℕ) (f : Fault) → HasRead text before left
    → Begins before left f → Outcome text
failed text before left f has (begins_with apart here) =
    inr (
      length before + 1,
      f,
      bad_line_first text (length before + 1) f apart
          (record {
            before = before;
            left = left;
            counted = refl;
            begins = has.begins;
            faultless = has.faultless;
            here = here;
          }),
    )

-- ---- a column that is spelled out, or none

is_two : (v : Version) → (v ≡ Two) ⊎ (v ≡ Two → ⊥)
is_two One = inr (λ e. cc)
is_two Two = inl refl

-- the entry of a list at a place is the line of this element, or not
data IsLineOf (e : ℕ) (o : Option Sentence) : Type 0 where
  line_of : (q : ℕ) (ts : List (Option Line)) → o ≡ Some (Element e q ts) → IsLineOf e o
  not_line_of : ((q : ℕ) (ts : List (Option Line)) → o ≡ Some (Element e q ts) → ⊥) → IsLineOf e o

element_number : Sentence → ℕ
element_number (Element n q ts) = n
element_number x = 0

is_element : Sentence → Bool
is_element (Element n q ts) = true
is_element x = false

none_element : (e q : ℕ) (ts : List (Option Line)) → ◌≡◌ {A = Option Sentence} None (Some (Element e q ts)) → ⊥
none_element e q ts h = cc

other_element : (x : Sentence) → is_element x ≡ false → (e q : ℕ) (ts : List (Option Line))
    → ◌≡◌ {A = Option Sentence} (Some x) (Some (Element e q ts)) → ⊥
unfolding is_element
other_element x not e q ts h = let same = ap is_element (same_Some x (Element e q ts) h) in false_is_not_true
    (sym not ∙ same)

line_of_or_not : (e : ℕ) (o : Option Sentence) → IsLineOf e o
unfolding element_number is_element
line_of_or_not e None = not_line_of (λ q ts h. none_element e q ts h)
line_of_or_not e (Some (Title v)) = not_line_of (λ q ts h. other_element (Title v) refl e q ts h)
line_of_or_not e (Some (Count c)) = not_line_of (λ q ts h. other_element (Count c) refl e q ts h)
line_of_or_not e (Some (Start l)) = not_line_of (λ q ts h. other_element (Start l) refl e q ts h)
line_of_or_not e (Some (End l)) = not_line_of (λ q ts h. other_element (End l) refl e q ts h)
line_of_or_not e (Some (Steps t)) = not_line_of (λ q ts h. other_element (Steps t) refl e q ts h)
line_of_or_not e (Some (At p)) = not_line_of (λ q ts h. other_element (At p) refl e q ts h)
line_of_or_not e (Some (Column b k q)) = not_line_of (λ p ts h. other_element (Column b k q) refl e p ts h)
line_of_or_not e (Some (sentences.Row x y)) = not_line_of (λ q ts h. other_element (sentences.Row x y) refl e q ts h)
line_of_or_not e (Some (Element n q ts)) =
    elim (cases_eq n e) [
      | inl same ↦ line_of q ts (ap (λ (m : ℕ). Some (Element m q ts)) same)
      | inr other ↦ not_line_of (λ p us h. other (ap element_number (same_Some (Element n q ts) (Element e p us) h)))
    ]

spelled_out_or_not : (lines : List Sentence) (e : ℕ) → IsSpelledOut lines e ⊎ (IsSpelledOut lines e → ⊥)
spelled_out_or_not lines e =
    elim (is_two (version_in lines)) [
      | inr other ↦ inr (λ out. other out.second)
      | inl second ↦ by_line second (line_of_or_not e (slice_get lines (header_lines + e)))
    ]
  where
    by_line : version_in lines ≡ Two → IsLineOf e (slice_get lines (header_lines + e))
        → IsSpelledOut lines e ⊎ (IsSpelledOut lines e → ⊥)
    by_line second (not_line_of not) = inr (λ out. not out.state out.targets out.has_line)
    by_line second (line_of q ts has) =
        elim (column_or_none (count_in lines) (wires_in lines) (bars_in lines) e) [
          | inl column ↦ inl (record { second = second; state = q; targets = ts; has_line = has; column = column })
          | inr none ↦ inr (λ out. none out.column.0 out.column.1)
        ]

-- a least one below a number, or none
least_below : (P : ℕ → Type 0) → ((n : ℕ) → P n ⊎ (P n → ⊥)) → (bound : ℕ)
    → ((m : ℕ) × IsLeast P m) ⊎ ((m : ℕ) → m < bound → P m → ⊥)
least_below P decides zero = inr (λ m h _. absurd (omega arith))
least_below P decides (suc bound) = by_rest (least_below P decides bound) (decides bound)
  where
    by_rest : ((m : ℕ) × IsLeast P m) ⊎ ((m : ℕ) → m < bound → P m → ⊥) → P bound ⊎ (P bound → ⊥)
        → ((m : ℕ) × IsLeast P m) ⊎ ((m : ℕ) → m < suc bound → P m → ⊥)
    by_rest (inl found) last = inl found
    by_rest (inr none) (inl here) = inl (bound, record { holds = here; least = none })
    by_rest (inr none) (inr lacks) = inr (λ m h holds. (elim (cases_lt m bound) [
      | inl low ↦ none m low holds
      | inr high ↦ (let same : m ≡ bound = omega arith in lacks (subst P same holds))
    ]))

complete : (text : List ℕ) (before : List Sentence) (left : List ℕ) → HasRead text before left
    → length before ≡ header_lines + count_in before → Outcome text
complete text before [] has whole = by_out (least_below (IsSpelledOut before) (spelled_out_or_not before)
    (length before))
  where
    are : AreWhole before
    are = record { faultless = has.faultless; complete = whole }

    begins : text ≡ lines_text before
    begins = has.begins ∙ append-nil (lines_text before)

    by_out : ((m : ℕ) × IsLeast (IsSpelledOut before) m) ⊎ ((m : ℕ) → m < length before → IsSpelledOut before m → ⊥)
        → Outcome text
    by_out (inl (m, first)) = inr (
      header_lines + m + 1,
      spelled_out,
      record { lines = before; begins = begins; whole = are; element = m; first = first; counted = refl },
    )
    by_out (inr none) = inl (whole-spells text before are begins
        (λ e out. none e (let within = slice_get_within before (header_lines + e) (Element e out.state out.targets)
        out.has_line in omega arith) out))
complete text before (b ∷ left) has whole =
    failed text before (b ∷ left) malformed has (begins_with apart_malformed
    (record {
      unsaid = λ x rest next. absurd (let room : length before < header_lines
          + count_in before = next.room in omega arith);
      unfinished = λ _. some;
    }))
  where
    some : b ∷ left ≢ []
    some e = cc

-- with fewer bytes left than this
decide : (fuel : ℕ) (text : List ℕ) (before : List Sentence) (left : List ℕ) → length left < fuel
    → HasRead text before left → length before ≤ header_lines + count_in before → Outcome text
decide zero text before left short has bound = absurd (omega arith)
decide (suc fuel) text before left short has bound =
    elim (cases_eq (length before) (header_lines + count_in before)) [
      | inl whole ↦ complete text before left has whole
      | inr room ↦ step (λ more behind shorter read below. decide fuel text more behind shorter read below)
          (omega (arith, room)) (goes before left (omega (arith, room)))
    ]
  where
    step : ((more : List Sentence) (behind : List ℕ) → length behind < fuel → HasRead text more behind
        → length more ≤ header_lines + count_in more → Outcome text) → length before < header_lines + count_in before
        → Goes before left → Outcome text
    step again room (fails f here) = failed text before left f has here
    step again room (reads x behind next none begins) =
        let lengths : length left ≡ length (sentence_text x ++ 10 ∷ behind) = ap length begins in
        let shorter : length behind < fuel = omega (arith, lengths, length-append (sentence_text x) (10 ∷ behind)) in
        let counted = count_in-more before x in
        let more = length-append before (x ∷ []) in
        again (before ++ x ∷ []) behind shorter (record {
          faultless = faultless_more [] before x has.faultless next none;
          begins = text_more text before x left behind has.begins begins;
        }) (omega arith)

pub texts-spell-or-fault : TextsSpellOrFault
texts-spell-or-fault text = decide (suc (length text)) text [] text (omega arith)
    (record { faultless = tt; begins = refl }) (omega arith)
