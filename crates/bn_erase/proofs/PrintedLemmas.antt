-- The printed names of the erasing machine's states and symbols: they are apart, and in their forms.
use Rattle.std.specs.Prelude.{◌≡◌, ◌≤◌, ◌<◌, ◌+◌, ◌*◌, ◌^◌, ◌-◌, ◌∷◌, ◌++◌, ◌&&◌, ℕ, suc, zero, max, Bool, true, false}
use Rattle.std.specs.Prelude.{List, [], length, Some, slice_get, map, take, decimal, nat_le, Contains}
use Rattle.std.specs.List.{list_all}
use Rattle.std.proofs.Common.{refl, sym, ap, ◌∙◌, subst, arith, get_or, length-append}
use Rattle.std.proofs.lemmas.Bool.{and_from, and_parts}
use Rattle.std.proofs.lemmas.Bool.Decides.{nat_tests}
use Rattle.std.proofs.lemmas.Fmt.{length-decimal-le}
use Rattle.std.proofs.lemmas.List.{length-map}
use Rattle.std.proofs.lemmas.Option.{same_Some}
use Rattle.bn_csv.specs.Forms.{is_name_byte, is_state_name, is_symbol}
use Rattle.bn_machine.specs.Machine.{IsMachine, Program}
use Rattle.bn_lists.specs.Lists.{nth}
use Rattle.bn_quad.specs.Names.{Naming}
use Rattle.bn_bennett_laws.specs.declared.name.Name.{Name}
use Rattle.bn_table.specs.Rows.{FitsTable}
use Rattle.bn_bennett.specs.Printed.{mark, one_byte, print_of, bennett_state_text, with_states}
use Rattle.bn_bennett.proofs.Counting.{each_mentioned}
use Rattle.bn_bennett.proofs.Forms.{letters_form, numbers_form, states_form}
use Rattle.bn_bennett.proofs.Printable.{number_bound}
use Rattle.bn_bennett.proofs.Texts.{length-number_names, state_text-once, text_new, text_room}
use Rattle.bn_erase_laws.specs.Erasing.{IsErasingName}
use Rattle.bn_erase_laws.specs.ErasingLaws.{ErasingCountsNames, ErasingHasNames}
use Rattle.bn_erase_laws.specs.declared.name.ErasingName.{ErasingName}
use Rattle.bn_erase_laws.specs.declared.name.ErasingName.TheVariants.{First, Second}
use Rattle.bn_erase.specs.Laws.{ErasingsHaveNames}
use Rattle.bn_erase.specs.Made.{Erasure, IsErasing}
use Rattle.bn_erase.specs.Printable.{ArePrintable, own_name}
use Rattle.bn_erase.specs.Printed.{erasing_text, names_of}
use Rattle.bn_qtable.proofs.RowsLemmas.{all_named as named_all}

-- ---- a text tells its name

pub erasing_text-once : (a b : ErasingName) → (print_of (own_name a)).number < 2 ^ 62
    → (print_of (own_name b)).number < 2 ^ 62 → erasing_text a ≡ erasing_text b → a ≡ b
erasing_text-once (First x) (First y) low high e = let rest : bennett_state_text x ≡ bennett_state_text y =
    cc in ap First (state_text-once x y low high rest)
erasing_text-once (First x) (Second y) low high e = let first : ◌≡◌ {A = ℕ} 70 71 =
    ap (λ (text : List ℕ). get_or text 0 0) e in absurd (omega arith)
erasing_text-once (Second x) (First y) low high e = let first : ◌≡◌ {A = ℕ} 71 70 =
    ap (λ (text : List ℕ). get_or text 0 0) e in absurd (omega arith)
erasing_text-once (Second x) (Second y) low high e = let rest : bennett_state_text x ≡ bennett_state_text y =
    cc in ap Second (state_text-once x y low high rest)

-- ---- the next state's text is new

module _ (names : List ErasingName) (all : ArePrintable names) (i : ℕ) (d : ErasingName) (old : Naming) (text : List ℕ)
    (inside : i < length names) (before : old ≡ with_states (map erasing_text (take i names)))
    (is : text ≡ erasing_text (get_or names i d)) where
  pub state_new : Contains old.states text → ⊥
  state_new = text_new erasing_text names i d old text inside before is
      (λ j k a b at_a at_b e. all.apart j k b (at_a ∙ ap Some (erasing_text-once a b (all.small j a at_a)
      (all.small k b at_b) e)) at_b)

  pub state_room : length old.states < 2 ^ 32 - 1
  state_room = text_room erasing_text names i d old text inside before is all.few

-- ---- small numbers

module _ (p q : Program) (e : Erasure) (left : IsMachine p) (right : IsMachine q) (fits : FitsTable p)
    (also : FitsTable q) (h : IsErasing p q e) where
  bound : (name : ErasingName) → IsErasingName p q name → (print_of (own_name name)).number ≤ 12002
  bound (First name) named = omega (arith, number_bound p name left named, fits.states, fits.quints)
  bound (Second name) named = omega (arith, number_bound q name right named.0, also.states, also.quints)

  pub name_bound : ErasingHasNames → (n : ℕ) (name : ErasingName) → slice_get e.names n ≡ Some name
      → (print_of (own_name name)).number ≤ 12002
  name_bound has_names n name at = bound name ((has_names p q left right name).0 (h.numbered.only n name at))

  pub printable : ErasingHasNames → ErasingCountsNames → ArePrintable e.names
  printable has_names counts =
      let long : length e.names ≡ 2 * (p.states + q.states) + 2 * (length p.quints + length q.quints) + 7 =
      counts p q left right (each_mentioned p fits) (each_mentioned q also) e.names h.numbered in
      record {
        few = omega (arith, long, fits.states, fits.quints, also.states, also.quints);
        apart = h.numbered.apart;
        small = λ n name at. omega (arith, name_bound has_names n name at);
      }

-- ---- forms

mark_short : (primed : Bool) → length (mark primed) ≤ 1
mark_short true = omega arith
mark_short false = omega arith

one_low : (name : Name) → (print_of name).number ≤ 12002 → (n : ℕ) (q : Name) → slice_get (name ∷ []) n ≡ Some q
    → (print_of q).number ≤ 12002
one_low name low zero q at = subst (λ z. (print_of z).number ≤ 12002) (same_Some name q at) low
one_low name low (suc n) q at = absurd (cc)

-- a letter before a name is a name
text_form : (letter : ℕ) (name : Name) → is_name_byte letter ≡ true → (print_of name).number ≤ 12002
    → is_state_name (letter ∷ bennett_state_text name) ≡ true
text_form letter name byte low =
    let n = (print_of name).number in
    let p = (print_of name).primed in
    let own : (is_state_name (bennett_state_text name) && true) ≡ true = states_form (name ∷ []) (one_low name low) in
    let bytes : list_all is_name_byte (bennett_state_text name) ≡ true =
    (and_parts _ (list_all is_name_byte (bennett_state_text name))
    (and_parts (is_state_name (bennett_state_text name)) true own).0).1 in
    let short : length (decimal n) ≤ 5 = length-decimal-le 5 n (omega arith) (omega arith) (omega arith) in
    let long : length (decimal n ++ mark p) ≡ length (decimal n) + length (mark p) =
    length-append (decimal n) (mark p) in
    let prime : length (mark p) ≤ 1 = mark_short p in
    let least : nat_le 1 (length (letter ∷ bennett_state_text name)) ≡ true = grind (arith, nat_tests) in
    let most : nat_le (length (letter ∷ bennett_state_text name)) 32 ≡ true = grind (arith, nat_tests) in
    and_from _ _ (and_from _ _ least most) (and_from _ _ byte bytes)

erasing_form : (name : ErasingName) → (print_of (own_name name)).number ≤ 12002
    → is_state_name (erasing_text name) ≡ true
erasing_form (First name) low = text_form 70 name refl low
erasing_form (Second name) low = text_form 71 name refl low

erasing_forms : (names : List ErasingName) → ((n : ℕ) (name : ErasingName) → slice_get names n ≡ Some name
    → (print_of (own_name name)).number ≤ 12002) → list_all is_state_name (map erasing_text names) ≡ true
erasing_forms [] all = refl
erasing_forms (q ∷ qs) all = and_from _ _ (erasing_form q (all 0 q refl))
    (erasing_forms qs (λ n name at. all (suc n) name at))

-- ---- the law

pub erasings_have_names : ErasingHasNames → ErasingsHaveNames
erasings_have_names has_names j e joint h =
    let n = names_of j e in
    let states : list_all is_state_name n.states ≡ true = erasing_forms e.names
    (name_bound j.first j.second e joint.first_machine joint.second_machine joint.first_fits joint.second_fits h
    has_names) in
    let letters : list_all is_symbol n.one ≡ true = letters_form j.letters joint.letters_form in
    let numbers : list_all is_symbol n.two ≡ true = numbers_form (max (length j.first.quints) (length j.second.quints))
    (omega (arith, joint.first_fits.quints, joint.second_fits.quints)) in
    let letter_count : j.first.symbols ≡ length n.one = joint.first_symbols ∙ sym (length-map j.letters one_byte) in
    record {
      states = named_all is_state_name n.states e.machine.states (h.states ∙ sym (length-map e.names erasing_text))
          states;
      one = λ z at. named_all is_symbol n.one z (same_Some _ _ (sym at ∙ ap (λ (zs : List ℕ). nth zs 1) h.symbols)
          ∙ letter_count) letters;
      two = λ z at. named_all is_symbol n.two z (same_Some _ _ (sym at ∙ ap (λ (zs : List ℕ). nth zs 2) h.symbols)
          ∙ sym (length-number_names (max (length j.first.quints) (length j.second.quints)))) numbers;
      three = λ z at. named_all is_symbol n.three z (same_Some _ _ (sym at ∙ ap (λ (zs : List ℕ). nth zs 3) h.symbols)
          ∙ letter_count) letters;
    }
