-- Which names stand in the erasing machine's list, and how many.
use Rattle.std.specs.Prelude.{◌≡◌, ◌≢◌, ℕ, suc, ◌+◌, ◌*◌, ◌<◌, ◌⊎◌, List, [], ◌∷◌, ◌++◌, length, map}
use Rattle.std.proofs.Common.{refl, sym, ap, ◌∙◌, subst, arith, inl, inr, length-append}
use Rattle.std.proofs.lemmas.List.{length-map}
use Rattle.bn_machine.specs.Machine.{Program, IsMachine}
use Rattle.bn_quad.specs.Quadruples.{Rule, turned}
use Rattle.bn_lists.specs.Lists.{IsIn}
use Rattle.bn_bennett_laws.proofs.MembershipLemmas.{in_head, in_tail, in_cases, in_left, in_right, in_append, in_map}
use Rattle.bn_bennett_laws.proofs.MembershipLemmas.{from_map, from_flat_map, each_of_two}
use Rattle.bn_bennett_laws.specs.List.{bennett, final_name}
use Rattle.bn_bennett_laws.specs.Names.{states_in, NumbersStates, Mentions}
use Rattle.bn_bennett_laws.specs.Renamed.{renamed}
use Rattle.bn_bennett_laws.proofs.RenamedLemmas.{from_in, to_in}
use Rattle.bn_bennett_laws.proofs.Apart.{Apart, apart_append, apart_map, apart_weaker}
use Rattle.bn_bennett_laws.proofs.Counts.{list_has_names, list_counts_names}
use Rattle.bn_bennett_laws.specs.declared.name.Name.{Name}
use Rattle.bn_erase_laws.specs.declared.name.ErasingName.{ErasingName}
use Rattle.bn_erase_laws.specs.declared.name.ErasingName.TheVariants.{First, Second}
use Rattle.bn_erase_laws.specs.Lists.{exchanged_rule}
use Rattle.bn_erase_laws.specs.Erasing.{second_name, first_half, backward, second_half, erasing, IsErasingName}
use Rattle.bn_erase_laws.specs.ErasingLaws.{ErasingHasNames, ErasingCountsNames}
use Rattle.bn_erase_laws.proofs.ErasingLemmas.{from_first, from_second, second_final, second_own, final_in, in_backward}
use Rattle.bn_erase_laws.proofs.DecidedLemmas.{same_name}
use Rattle.bn_bennett_laws.proofs.RepeatLemmas.{same_long}
use Rattle.bn_erase_laws.proofs.DistinctLemmas.{Distinct, distinct, distinct_numbers, numbers_apart, numbers_in}
use Rattle.bn_erase_laws.proofs.DistinctLemmas.{in_numbers}

-- the state of a list is one before or after a rule of it
pub data IsStateOf {Q : Type 0} (rs : List (Rule Q)) (q : Q) : Type 0 where
  before : (r : Rule Q) → IsIn rs r → r.from ≡ q → IsStateOf rs q
  after : (r : Rule Q) → IsIn rs r → r.to ≡ q → IsStateOf rs q

pub state_of : {Q : Type 0} (rs : List (Rule Q)) (q : Q) → IsIn (states_in rs) q → IsStateOf rs q
state_of {Q} rs q h =
    let found = from_flat_map (λ (r : Rule Q). r.from ∷ r.to ∷ []) rs q h in
    each_of_two (λ s. s ≡ q → IsStateOf rs q) found.0.from found.0.to (λ e. before found.0 found.1 e)
    (λ e. after found.0 found.1 e) q found.2 refl

module _ (p q : Program) (left : IsMachine p) (right : IsMachine q) where
  -- ---- forth

  named_first : (name : Name) → IsIn (states_in (bennett p)) name → IsErasingName p q (First name)
  named_first name h = (list_has_names p left.some name).0 h

  named_second : (name : Name) → IsIn (states_in (bennett q)) name → IsErasingName p q (second_name p q name)
  named_second name h = by_case (second_own p q name)
    where
      by_case : (name ≡ final_name q) ⊎ (second_name p q name ≡ Second name) → IsErasingName p q (second_name p q name)
      by_case (inl is) = subst (IsErasingName p q) (sym (ap (second_name p q) is ∙ second_final p q))
          (named_first (final_name p) (final_in p left.some))
      by_case (inr own) =
          subst (IsErasingName p q) (sym own) (
            (list_has_names q right.some name).0 h,
            λ is. let there : First (final_name p) ≡ Second name =
                sym (second_final p q) ∙ ap (second_name p q) (sym is) ∙ own in cc,
          )

  named_rule : (r : Rule ErasingName) → IsIn (erasing p q) r → IsErasingName p q r.from × IsErasingName p q r.to
  named_rule r h =
      elim (in_append (first_half p) (second_half p q) r h) [
        | inl first ↦
            let a = from_first p r first in
            subst (λ (t : Rule ErasingName). IsErasingName p q t.from × IsErasingName p q t.to) a.2
            (named_first a.0.from (from_in (bennett p) a.0 a.1), named_first a.0.to (to_in (bennett p) a.0 a.1))
        | inr second ↦
            let b = from_second p q r second in
            subst (λ (t : Rule ErasingName). IsErasingName p q t.from × IsErasingName p q t.to) b.2
            (named_second b.0.to (to_in (bennett q) b.0 b.1), named_second b.0.from (from_in (bennett q) b.0 b.1))
      ]

  names_forth : (name : ErasingName) → IsStateOf (erasing p q) name → IsErasingName p q name
  names_forth name (before r h is) = subst (IsErasingName p q) is (named_rule r h).0
  names_forth name (after r h is) = subst (IsErasingName p q) is (named_rule r h).1

  -- ---- back

  first_stands : (a : Rule Name) → IsIn (bennett p) a → IsIn (erasing p q) (renamed First a)
  unfolding first_half
  first_stands a h = in_left (first_half p) (second_half p q) (renamed First a) (in_map (renamed First) (bennett p) a h)

  second_stands : (b : Rule Name) → IsIn (bennett q) b → IsIn (erasing p q)
      (renamed (second_name p q) (exchanged_rule (turned b)))
  unfolding second_half
  second_stands b h = in_right (first_half p) (second_half p q) _
      (in_map (renamed (second_name p q)) (backward q) (exchanged_rule (turned b)) (in_backward q b h))

  first_state : (name : Name) → IsStateOf (bennett p) name → IsIn (states_in (erasing p q)) (First name)
  first_state name (before a h is) = subst (λ n. IsIn (states_in (erasing p q)) (First n)) is
      (from_in (erasing p q) (renamed First a) (first_stands a h))
  first_state name (after a h is) = subst (λ n. IsIn (states_in (erasing p q)) (First n)) is
      (to_in (erasing p q) (renamed First a) (first_stands a h))

  second_state : (name : Name) → IsStateOf (bennett q) name → IsIn (states_in (erasing p q)) (second_name p q name)
  second_state name (before b h is) = subst (λ n. IsIn (states_in (erasing p q)) (second_name p q n)) is
      (to_in (erasing p q) (renamed (second_name p q) (exchanged_rule (turned b))) (second_stands b h))
  second_state name (after b h is) = subst (λ n. IsIn (states_in (erasing p q)) (second_name p q n)) is
      (from_in (erasing p q) (renamed (second_name p q) (exchanged_rule (turned b))) (second_stands b h))

  names_back : (name : ErasingName) → IsErasingName p q name → IsIn (states_in (erasing p q)) name
  names_back (First name) h = first_state name (state_of (bennett p) name ((list_has_names p left.some name).1 h))
  names_back (Second name) h = by_case (second_own p q name)
    where
      by_case : (name ≡ final_name q) ⊎ (second_name p q name ≡ Second name)
          → IsIn (states_in (erasing p q)) (Second name)
      by_case (inl is) = absurd (h.1 is)
      by_case (inr own) = subst (IsIn (states_in (erasing p q))) own
          (second_state name (state_of (bennett q) name ((list_has_names q right.some name).1 h.0)))

pub erasing_has_names : ErasingHasNames
erasing_has_names p q left right name = (
  λ h. names_forth p q left right name (state_of (erasing p q) name h),
  names_back p q left right name,
)

-- ---- how many

module _ (p q : Program) (left : IsMachine p) (right : IsMachine q)
    (all : (state : ℕ) → state < p.states → Mentions p.quints state)
    (also : (state : ℕ) → state < q.states → Mentions q.quints state) where
  ones : Distinct (states_in (bennett p))
  ones = distinct same_name (states_in (bennett p))

  twos : Distinct (states_in (bennett q))
  twos = distinct same_name (states_in (bennett q))

  -- the names of both lists, each once
  abbrev both : List ErasingName
  both = map First ones.list ++ map Second twos.list

  both_apart : Apart (λ x y. x ≢ y) both
  both_apart =
      apart_append (λ x y. x ≢ y) (map First ones.list) (map Second twos.list)
      (apart_map (λ x y. x ≢ y) First ones.list (apart_weaker (λ x y. x ≢ y) (λ x y. First x ≢ First y) ones.list
      (λ x y other e. other (cc)) ones.apart))
      (apart_map (λ x y. x ≢ y) Second twos.list (apart_weaker (λ x y. x ≢ y) (λ x y. Second x ≢ Second y) twos.list
      (λ x y other e. other (cc)) twos.apart))
      (λ v w h k e.
      let a = from_map First ones.list v h in
      let b = from_map Second twos.list w k in
      let same : First a.0 ≡ Second b.0 = a.2 ∙ e ∙ sym b.2 in
      cc)

  length-both : length both ≡ 2 * (p.states + q.states) + 2 * (length p.quints + length q.quints) + 8
  length-both =
      let one : length ones.list ≡ 2 * p.states + 2 * length p.quints + 4 =
      list_counts_names p left all ones.list (distinct_numbers (bennett p) ones) in
      let two : length twos.list ≡ 2 * q.states + 2 * length q.quints + 4 =
      list_counts_names q right also twos.list (distinct_numbers (bennett q) twos) in
      let first : length (map First ones.list) ≡ length ones.list = length-map ones.list First in
      let second : length (map Second twos.list) ≡ length twos.list = length-map twos.list Second in
      omega (arith, length-append (map First ones.list) (map Second twos.list), one, two, first, second)

  module _ (order : List ErasingName) (numbers : NumbersStates (erasing p q) order) where
    -- the names in order, and the second machine's final state, that isn't among them
    abbrev with_final : List ErasingName
    with_final = Second (final_name q) ∷ order

    names : (name : ErasingName) → IsIn order name → IsErasingName p q name
    names name h = (erasing_has_names p q left right name).0 (in_numbers (erasing p q) order numbers name h)

    with_final_apart : Apart (λ x y. x ≢ y) with_final
    with_final_apart = (
      λ y h same. let name : IsErasingName p q (Second (final_name q)) =
          subst (IsErasingName p q) (sym same) (names y h) in name.1 refl,
      numbers_apart (erasing p q) order numbers,
    )

    in_both : (name : ErasingName) → IsErasingName p q name → IsIn both name
    in_both (First name) h = in_left (map First ones.list) (map Second twos.list) (First name)
        (in_map First ones.list name (ones.each name ((list_has_names p left.some name).1 h)))
    in_both (Second name) h = in_right (map First ones.list) (map Second twos.list) (Second name)
        (in_map Second twos.list name (twos.each name ((list_has_names q right.some name).1 h.0)))

    forth : (name : ErasingName) → IsIn with_final name → IsIn both name
    forth name h =
        elim (in_cases (Second (final_name q)) name order h) [
          | inl same ↦ subst (IsIn both) same (in_right (map First ones.list) (map Second twos.list)
              (Second (final_name q)) (in_map Second twos.list (final_name q)
              (twos.each (final_name q) (final_in q right.some))))
          | inr further ↦ in_both name (names name further)
        ]

    in_order : (name : ErasingName) → IsErasingName p q name → IsIn with_final name
    in_order name h = in_tail (Second (final_name q)) name order
        (numbers_in (erasing p q) order numbers name ((erasing_has_names p q left right name).1 h))

    back : (name : ErasingName) → IsIn both name → IsIn with_final name
    back name h =
        elim (in_append (map First ones.list) (map Second twos.list) name h) [
          | inl one ↦
              let a = from_map First ones.list name one in
              subst (IsIn with_final) a.2 (in_order (First a.0) ((list_has_names p left.some a.0).0
              (ones.only a.0 a.1)))
          | inr two ↦
              let b = from_map Second twos.list name two in
              subst (IsIn with_final) b.2
              (elim (same_name b.0 (final_name q)) [
                | inl same ↦ subst (λ n. IsIn with_final (Second n)) (sym same) (in_head (Second (final_name q)) order)
                | inr other ↦ in_order (Second b.0) ((list_has_names q right.some b.0).0 (twos.only b.0 b.1), other)
              ])
        ]

    count : length order ≡ 2 * (p.states + q.states) + 2 * (length p.quints + length q.quints) + 7
    count =
        let long : suc (length order) ≡ length both = same_long with_final both with_final_apart both_apart forth back
        in
        omega (arith, long, length-both)

pub erasing_counts_names : ErasingCountsNames
erasing_counts_names p q left right all also order numbers = count p q left right all also order numbers
