-- Two translations make the erasing machine's list over numbers.
use Rattle.std.specs.Prelude.{◌≡◌, ◌≢◌, ℕ, suc, ◌+◌, ◌<◌, ◌^◌, List, ◌++◌, length, map, Some, slice_get}
use Rattle.std.proofs.Common.{sym, ap, ◌∙◌, subst, arith, inl, inr, get_or, length-append}
use Rattle.std.proofs.lemmas.List.{get_or-append-add, get_or-map, get_or_append_left, length-map, map-append}
use Rattle.std.proofs.lemmas.List.Elements.{All-map}
use Rattle.std.proofs.lemmas.Option.{slice_get-get_or}
use Rattle.bn_machine.specs.Machine.{IsMachine, Program}
use Rattle.bn_quad.specs.Kept.{quad_of}
use Rattle.bn_quad.specs.Quadruples.{IsRuleInRange, Rule, final_state_of, turned_list}
use Rattle.bn_quad.proofs.KeptLemmas.{rules_of-quads}
use Rattle.bn_quad.specs.declared.quad.Quad.{Quad}
use Rattle.bn_lists.specs.Lists.{IsIn}
use Rattle.bn_bennett_laws.proofs.MembershipLemmas.{from_map, in_append, in_left, in_map, in_right}
use Rattle.bn_bennett_laws.proofs.Apart.{Apart, apart_append, apart_map, apart_weaker}
use Rattle.bn_bennett_laws.specs.Laws.{ListHasNames, NumbersPassTests}
use Rattle.bn_bennett_laws.specs.List.{bennett, final_name}
use Rattle.bn_bennett_laws.specs.Names.{NumbersStates}
use Rattle.bn_bennett_laws.specs.Renamed.{renamed, rename, name_at}
use Rattle.bn_bennett_laws.specs.Stages.{IsStandardMachine}
use Rattle.bn_bennett_laws.specs.declared.name.Name.{Name}
use Rattle.bn_bennett_laws.specs.declared.name.Name.TheVariants.{GoRight}
use Rattle.bn_bennett.specs.Draft.{IsBelow}
use Rattle.bn_bennett.specs.Translation.{IsTranslation, Translation, name_of}
use Rattle.bn_bennett.proofs.Counting.{numbers_states}
use Rattle.bn_erase_laws.specs.Lists.{exchanged_list}
use Rattle.bn_erase_laws.specs.Erasing.{IsErasingName, backward, erasing, first_half, second_half, second_name}
use Rattle.bn_erase_laws.specs.ErasingLaws.{ErasingHasNames}
use Rattle.bn_erase_laws.specs.declared.name.ErasingName.{ErasingName}
use Rattle.bn_erase_laws.specs.declared.name.ErasingName.TheVariants.{First, Second}
use Rattle.bn_erase_laws.proofs.DistinctLemmas.{distinct_numbers, in_numbers, numbers_apart, numbers_in}
use Rattle.bn_erase_laws.proofs.ErasingLemmas.{second_final, second_own}
use Rattle.bn_erase.specs.Numbered.{AreErasing, joint_names, joint_quads, meeting_of, new_state}
use Rattle.bn_erase.specs.declared.erasing.Meeting.{Meeting}
use Rattle.bn_erase.proofs.ListLemmas.{all_from, final_low, from_backward, holds_of, joint_kept, joint_rules}
use Rattle.bn_erase.proofs.ListLemmas.{rename_backward, rename_same, rename_twice}
use Rattle.bn_erase.proofs.NewStateLemmas.{Placed, final, before, behind, placed}
use Rattle.bn_erase.proofs.WithoutLemmas.{apart_without, in_without, left_out, length-without, others_stay}
use Rattle.bn_erase.proofs.WithoutLemmas.{place_before, place_behind, without, without_is}

-- ---- one translation

-- its final state has the name of the list's
pub final_named : (p : Program) (t : Translation) → IsStandardMachine p → NumbersPassTests → IsTranslation p t
    → name_of t (final_state_of t.machine.rules) ≡ final_name p
final_named p t standard tests h = (tests p standard (name_of t) t.machine.rules h.rules).4

pub final_below : (p : Program) (t : Translation) → IsTranslation p t
    → final_state_of t.machine.rules < t.machine.states
final_below p t h = final_low t.machine.states t.machine.symbols t.machine.rules h.machine.some h.machine.in_range

-- ---- two translations

module _ (p q : Program) (t u : Translation) (h : IsTranslation p t) (k : IsTranslation q u)
    (middle : name_of t (final_state_of t.machine.rules) ≡ final_name p)
    (ends : name_of u (final_state_of u.machine.rules) ≡ final_name q) where
  abbrev m : Meeting
  m = meeting_of t.machine u.machine

  -- the second one's names, but for that of its final state, and all names
  abbrev others : List Name
  others = without m.end u.names

  abbrev names : List ErasingName
  names = map First t.names ++ map Second others

  first_order : NumbersStates (bennett p) t.names
  first_order = numbers_states (bennett p) t.names h.names

  second_order : NumbersStates (bennett q) u.names
  second_order = numbers_states (bennett q) u.names k.names

  -- ---- how many

  end_low : m.end < length u.names
  end_low = omega (arith, final_below q u k, k.states)

  length-firsts : length (map First t.names) ≡ t.machine.states
  length-firsts = length-map t.names First ∙ sym h.states

  length-others : suc (length others) ≡ u.machine.states
  length-others = length-without m.end u.names end_low ∙ sym k.states

  length-names : suc (length names) ≡ t.machine.states + u.machine.states
  length-names =
      let sum : length names ≡ length (map First t.names) + length (map Second others) =
      length-append (map First t.names) (map Second others) in
      omega (arith, sum, length-firsts, length-map others Second, length-others)

  -- ---- the name of each number

  end_stands : slice_get u.names m.end ≡ Some (final_name q)
  end_stands = slice_get-get_or u.names m.end GoRight end_low ∙ ap Some ends

  first_named : (s : ℕ) → s < t.machine.states → name_at (First GoRight) names s ≡ First (name_of t s)
  first_named s low =
      let inside : s < length t.names = omega (arith, h.states) in
      let mapped : s < length (map First t.names) = omega (arith, length-firsts) in
      get_or_append_left (map First t.names) (map Second others) (First GoRight) s mapped
      ∙ get_or-map First t.names s GoRight (First GoRight) inside

  other_named : (j : ℕ) → j < length others → name_at (First GoRight) names (m.states + j)
      ≡ Second (get_or others j GoRight)
  other_named j low =
      ap (λ n. get_or names (n + j) (First GoRight)) (sym length-firsts)
      ∙ get_or-append-add (map First t.names) (map Second others) j (First GoRight)
      ∙ get_or-map Second others j GoRight (First GoRight) low

  own_named : (s : ℕ) → s < u.machine.states → (s ≡ m.end → ⊥) → second_name p q (name_of u s) ≡ Second (name_of u s)
  own_named s low other =
      let inside : s < length u.names = omega (arith, k.states) in
      elim (second_own p q (name_of u s)) [
        | inl is ↦ absurd (other (second_order.apart s m.end (final_name q)
            (slice_get-get_or u.names s GoRight inside ∙ ap Some is) end_stands))
        | inr own ↦ own
      ]

  second_named : (s : ℕ) → s < u.machine.states → name_at (First GoRight) names (new_state m s)
      ≡ second_name p q (name_of u s)
  second_named s low = by_case (placed m s)
    where
      by_case : Placed m s → name_at (First GoRight) names (new_state m s) ≡ second_name p q (name_of u s)
      by_case (final same is) =
          ap (name_at (First GoRight) names) is
          ∙ first_named m.middle (final_below p t h)
          ∙ ap First middle
          ∙ sym (second_final p q)
          ∙ ap (second_name p q) (sym ends ∙ ap (name_of u) (sym same))
      by_case (before early is) =
          let inside : s < length others = omega (arith, length-others, end_low, k.states) in
          ap (name_at (First GoRight) names) is
          ∙ other_named s inside
          ∙ ap Second (place_before m.end s u.names GoRight early)
          ∙ sym (own_named s low (λ e. omega arith))
      by_case (behind j same late is) =
          let inside : j < length others = omega (arith, length-others) in
          ap (name_at (First GoRight) names) is
          ∙ other_named j inside
          ∙ ap Second (place_behind m.end j u.names GoRight late)
          ∙ ap (λ n. Second (name_of u n)) (sym same)
          ∙ sym (own_named s low (λ e. omega arith))

  new_low : (s : ℕ) → s < u.machine.states → new_state m s < length names
  new_low s low = by_case (placed m s)
    where
      by_case : Placed m s → new_state m s < length names
      by_case (final same is) =
          let place : m.middle < length names = omega (arith, final_below p t h, length-names) in
          subst (λ n. n < length names) (sym is) place
      by_case (before early is) =
          let place : m.states + s < length names = omega (arith, length-names, end_low, k.states) in
          subst (λ n. n < length names) (sym is) place
      by_case (behind j same late is) =
          let place : m.states + j < length names = omega (arith, length-names) in
          subst (λ n. n < length names) (sym is) place

  -- ---- the list

  abbrev rules : List (Rule ℕ)
  rules = joint_rules m t.machine.rules u.machine.rules

  backward_low : (r : Rule ℕ) → IsIn (exchanged_list (turned_list u.machine.rules)) r
      → (r.from < u.machine.states) × (r.to < u.machine.states)
  backward_low r there =
      let found = from_backward u.machine.rules r there in
      let range = holds_of (IsRuleInRange u.machine.states u.machine.symbols) u.machine.rules found.0 k.machine.in_range
      found.1 in
      subst (λ (s : Rule ℕ). (s.from < u.machine.states) × (s.to < u.machine.states)) found.2 (range.to, range.from)

  rules_low : (r : Rule ℕ) → IsIn rules r → (r.from < length names) × (r.to < length names)
  rules_low r there =
      elim (in_append t.machine.rules (rename (new_state m) (exchanged_list (turned_list u.machine.rules))) r there) [
        | inl first ↦
            let range = holds_of (IsRuleInRange t.machine.states t.machine.symbols) t.machine.rules r h.machine.in_range
            first in
            let some : 0 < u.machine.states = omega (arith, length-others) in
            (omega (arith, range.from, length-names), omega (arith, range.to, length-names))
        | inr second ↦
            let found = from_map (renamed (new_state m)) (exchanged_list (turned_list u.machine.rules)) r second in
            let low = backward_low found.0 found.1 in
            subst (λ (s : Rule ℕ). (s.from < length names) × (s.to < length names)) found.2
            (new_low found.0.from low.0, new_low found.0.to low.1)
      ]

  first_list : rename (name_at (First GoRight) names) t.machine.rules ≡ rename First (bennett p)
  first_list =
      rename_same (name_at (First GoRight) names) (λ s. First (name_of t s)) t.machine.rules (λ r there.
      let range = holds_of (IsRuleInRange t.machine.states t.machine.symbols) t.machine.rules r h.machine.in_range there
      in
      (first_named r.from range.from, first_named r.to range.to))
      ∙ sym (rename_twice First (name_of t) t.machine.rules)
      ∙ ap (rename First) h.rules

  second_list : rename (name_at (First GoRight) names) (rename (new_state m)
      (exchanged_list (turned_list u.machine.rules))) ≡ rename (second_name p q) (backward q)
  second_list =
      let back : List (Rule ℕ) = exchanged_list (turned_list u.machine.rules) in
      rename_twice (name_at (First GoRight) names) (new_state m) back
      ∙ rename_same (λ s. name_at (First GoRight) names (new_state m s)) (λ s. second_name p q (name_of u s)) back
      (λ r there.
      let low = backward_low r there in
      (second_named r.from low.0, second_named r.to low.1))
      ∙ sym (rename_twice (second_name p q) (name_of u) back)
      ∙ ap (rename (second_name p q)) (rename_backward (name_of u) u.machine.rules
      ∙ ap (λ rs. exchanged_list (turned_list rs)) k.rules)

  joint_list : rename (name_at (First GoRight) names) rules ≡ erasing p q
  unfolding first_half second_half
  joint_list =
      map-append (renamed (name_at (First GoRight) names)) t.machine.rules
      (rename (new_state m) (exchanged_list (turned_list u.machine.rules)))
      ∙ (λ i. first_list i ++ second_list i)

  -- ---- each name has one number

  names_apart : Apart (λ x y. x ≢ y) names
  names_apart =
      apart_append (λ x y. x ≢ y) (map First t.names) (map Second others)
      (apart_map (λ x y. x ≢ y) First t.names (apart_weaker (λ x y. x ≢ y) (λ x y. First x ≢ First y) t.names
      (λ x y other e. other (cc)) (numbers_apart (bennett p) t.names first_order)))
      (apart_map (λ x y. x ≢ y) Second others (apart_weaker (λ x y. x ≢ y) (λ x y. Second x ≢ Second y) others
      (λ x y other e. other (cc)) (apart_without (λ x y. x ≢ y) m.end u.names
      (numbers_apart (bennett q) u.names second_order))))
      (λ v w one two e.
      let a = from_map First t.names v one in
      let b = from_map Second others w two in
      let same : First a.0 ≡ Second b.0 = a.2 ∙ e ∙ sym b.2 in
      cc)

  module _ (left : IsMachine p) (right : IsMachine q) (listed : ListHasNames) (has_names : ErasingHasNames) where
    named_in : (name : ErasingName) → IsErasingName p q name → IsIn names name
    named_in (First name) there =
        in_left (map First t.names) (map Second others) (First name)
        (in_map First t.names name (numbers_in (bennett p) t.names first_order name
        ((listed p left.some name).1 there)))
    named_in (Second name) there =
        in_right (map First t.names) (map Second others) (Second name)
        (in_map Second others name (others_stay m.end u.names name (final_name q) end_stands there.1
        (numbers_in (bennett q) u.names second_order name ((listed q right.some name).1 there.0))))

    in_named : (name : ErasingName) → IsIn names name → IsErasingName p q name
    in_named name there =
        elim (in_append (map First t.names) (map Second others) name there) [
          | inl one ↦
              let a = from_map First t.names name one in
              subst (IsErasingName p q) a.2 ((listed p left.some a.0).0
              (in_numbers (bennett p) t.names first_order a.0 a.1))
          | inr two ↦
              let b = from_map Second others name two in
              subst (IsErasingName p q) b.2 (
                (listed q right.some b.0).0 (in_numbers (bennett q) u.names second_order b.0
                    (in_without m.end u.names b.0 b.1)),
                left_out m.end u.names b.0 (final_name q) (numbers_apart (bennett q) u.names second_order) end_stands
                    b.1,
              )
        ]

    names_number : NumbersStates (erasing p q) names
    names_number = distinct_numbers (erasing p q) (record {
      list = names;
      apart = names_apart;
      each = λ name there. named_in name ((has_names p q left right name).0 there);
      only = λ name there. (has_names p q left right name).1 (in_named name there);
    })

    rules_erasing : t.machine.states + u.machine.states < 2 ^ 32 → AreErasing p q names (map quad_of rules)
    rules_erasing small = record {
      list = ap (rename (name_at (First GoRight) names)) (rules_of-quads rules) ∙ joint_list;
      kept = ap (map quad_of) (rules_of-quads rules);
      below = All-map (IsBelow (length names)) quad_of rules (all_from (λ r. IsBelow (length names) (quad_of r)) rules
          (λ r there. let low = rules_low r there in record { state = low.0; next = low.1 }));
      numbered = names_number;
      few = omega (arith, length-names);
    }

    -- names and quadruples as they are made
    pub are_erasing : (made : List ErasingName) (quads : List Quad) → t.machine.states + u.machine.states < 2 ^ 32
        → made ≡ joint_names t.names u.names m.end → quads ≡ joint_quads m t.machine.rules u.machine.rules
        → AreErasing p q made quads
    are_erasing made quads small e f =
        let same : made ≡ names = e ∙ ap (λ ns. map First t.names ++ map Second ns) (without_is m.end u.names) in
        let kept : quads ≡ map quad_of rules = f ∙ joint_kept m t.machine.rules u.machine.rules in
        let P : List ErasingName → Type 0 = λ ns. AreErasing p q ns quads in
        let Q : List Quad → Type 0 = AreErasing p q names in
        subst P (sym same) (subst Q (sym kept) (rules_erasing small))
