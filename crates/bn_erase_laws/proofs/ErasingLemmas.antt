-- The erasing machine: its halves join, and it is deterministic, reversible and uniform.
use Rattle.std.specs.Prelude.{◌≡◌, ◌≢◌, ℕ, ◌+◌, ◌*◌, ◌<◌, ◌≤◌, ◌⊎◌, List, length, reverse, max, cond}
use Rattle.std.proofs.Common.{refl, sym, ap, ◌∙◌, subst, arith, inl, inr, length-append}
use Rattle.std.proofs.lemmas.List.{length-map, length-reverse}
use Rattle.std.proofs.lemmas.Bool.Decides.{eqb_tells}
use Rattle.bn_machine.specs.Machine.{Program, start_of}
use Rattle.bn_machine.specs.Standard.{IsStandard}
use Rattle.bn_quad.specs.Quadruples.{Deed, Rewrite, Move, Rule, deeds_of, turned_deed, turned, turned_list}
use Rattle.bn_quad.specs.Quadruples.{IsDeedInRange, AreDeedsInRange}
use Rattle.bn_quad.specs.Overlap.{HasNoClash}
use Rattle.bn_quad.specs.declared.clash.Clash.TheVariants.{Domain, Range}
use Rattle.bn_lists.specs.Lists.{IsIn}
use Rattle.bn_bennett_laws.proofs.MembershipLemmas.{from_map, in_map, in_append}
use Rattle.bn_bennett_laws.specs.List.{bennett, initial_name, final_name}
use Rattle.bn_bennett_laws.specs.Names.{states_in, IsUniformFrom}
use Rattle.bn_bennett_laws.specs.Renamed.{renamed, KeepsApart}
use Rattle.bn_bennett_laws.proofs.RenamedLemmas.{no_clash_renamed, uniform_renamed, from_in, to_in}
use Rattle.bn_bennett_laws.specs.Stages.{IsStandardMachine}
use Rattle.bn_bennett_laws.proofs.Counts.{list_has_ends, list_has_length, list_is_in_range}
use Rattle.bn_bennett_laws.proofs.Tests.{list_deterministic, list_reversible}
use Rattle.bn_bennett_laws.proofs.Uniform.{list_uniform}
use Rattle.bn_bennett_laws.specs.declared.name.Name.{Name}
use Rattle.bn_bennett_laws.specs.declared.name.Name.TheVariants.{Compute, ComputeWithin, GoRight, CopyLetter, GoLeft}
use Rattle.bn_bennett_laws.specs.declared.name.Name.TheVariants.{PassLetter, Retrace, RetraceWithin}
use Rattle.bn_erase_laws.specs.declared.name.ErasingName.{ErasingName}
use Rattle.bn_erase_laws.specs.declared.name.ErasingName.TheVariants.{First, Second}
use Rattle.bn_erase_laws.specs.Lists.{exchanged_rule, JoinsAt}
use Rattle.bn_erase_laws.specs.Erasing.{second_name, first_half, backward, second_half, erasing_initial, erasing_middle}
use Rattle.bn_erase_laws.specs.Erasing.{erasing_final, erasing_symbols}
use Rattle.bn_erase_laws.proofs.TurnedLemmas.{from_turned, in_turned, turned_deterministic, turned_reversible}
use Rattle.bn_erase_laws.proofs.TurnedLemmas.{turned_uniform}
use Rattle.bn_erase_laws.proofs.ExchangedLemmas.{exchanged_free, exchanged_uniform}
use Rattle.bn_erase_laws.proofs.JoinedLemmas.{joined_free, joined_uniform}
use Rattle.bn_erase_laws.specs.ErasingLaws.{ErasingJoins, ErasingPassesTests, ErasingHasLength, ErasingIsInRange}
use Rattle.bn_erase_laws.specs.ErasingLaws.{LeastErasingIsListed}

-- ---- the names of the second machine

-- what name a state of retrace gets
data Shown (p q : Program) (j : ℕ) : Type 0 where
  joined : j ≡ start_of q.quints → second_name p q (Retrace j) ≡ First (final_name p) → Shown p q j
  own : j ≢ start_of q.quints → second_name p q (Retrace j) ≡ Second (Retrace j) → Shown p q j

shown : (p q : Program) (j : ℕ) → Shown p q j
shown p q j =
    elim (eqb_tells j (start_of q.quints)) [
      | inl same ↦ joined same.1 (ap (λ b. cond b (First (final_name p)) (Second (Retrace j))) same.0)
      | inr other ↦ own other.1 (ap (λ b. cond b (First (final_name p)) (Second (Retrace j))) other.0)
    ]

-- the second machine's final state is the middle
pub second_final : (p q : Program) → second_name p q (final_name q) ≡ erasing_middle p
second_final p q = by_case (shown p q (start_of q.quints))
  where
    by_case : Shown p q (start_of q.quints) → second_name p q (final_name q) ≡ erasing_middle p
    by_case (joined same is) = is
    by_case (own other is) = absurd (other refl)

-- a name of the second that is one of the first is its final state, and the middle
pub second_as_first : (p q : Program) (x y : Name) → First x ≡ second_name p q y
    → (x ≡ final_name p) × (y ≡ final_name q)
second_as_first p q x (Compute j) e = absurd (cc)
second_as_first p q x (ComputeWithin m) e = absurd (cc)
second_as_first p q x GoRight e = absurd (cc)
second_as_first p q x CopyLetter e = absurd (cc)
second_as_first p q x GoLeft e = absurd (cc)
second_as_first p q x PassLetter e = absurd (cc)
second_as_first p q x (Retrace j) e = by_case (shown p q j)
  where
    by_case : Shown p q j → (x ≡ final_name p) × (Retrace j ≡ final_name q)
    by_case (joined same is) = (cc, ap Retrace same)
    by_case (own other is) = absurd (cc)
second_as_first p q x (RetraceWithin m) e = absurd (cc)

-- the name, unless it is the final state
pub second_own : (p q : Program) (y : Name) → (y ≡ final_name q) ⊎ (second_name p q y ≡ Second y)
second_own p q (Compute j) = inr refl
second_own p q (ComputeWithin m) = inr refl
second_own p q GoRight = inr refl
second_own p q CopyLetter = inr refl
second_own p q GoLeft = inr refl
second_own p q PassLetter = inr refl
second_own p q (Retrace j) = by_case (shown p q j)
  where
    by_case : Shown p q j → (Retrace j ≡ final_name q) ⊎ (second_name p q (Retrace j) ≡ Second (Retrace j))
    by_case (joined same is) = inl (ap Retrace same)
    by_case (own other is) = inr is
second_own p q (RetraceWithin m) = inr refl

-- no two names of the second get one name
pub second_once : (p q : Program) (a b : Name) → second_name p q a ≡ second_name p q b → a ≡ b
second_once p q a b e = by_cases (second_own p q a) (second_own p q b)
  where
    by_cases : (a ≡ final_name q) ⊎ (second_name p q a ≡ Second a) → (b ≡ final_name q) ⊎ (second_name p q b ≡ Second b)
        → a ≡ b
    by_cases (inl h) (inl k) = h ∙ sym k
    by_cases (inl h) (inr k) = let there : First (final_name p) ≡ second_name p q b =
        sym (second_final p q) ∙ ap (second_name p q) (sym h) ∙ e in h
        ∙ sym (second_as_first p q (final_name p) b there).1
    by_cases (inr h) (inl k) = let there : First (final_name p) ≡ second_name p q a =
        sym (second_final p q) ∙ ap (second_name p q) (sym k) ∙ sym e in (second_as_first p q (final_name p) a there).1
        ∙ sym k
    by_cases (inr h) (inr k) = let there : Second a ≡ Second b = sym h ∙ e ∙ k in cc

pub second_apart : (p q : Program) (rs : List (Rule Name)) → KeepsApart (second_name p q) rs
second_apart p q rs = record { apart = λ a b h k e. second_once p q a b e }

pub first_apart : (rs : List (Rule Name)) → KeepsApart First rs
first_apart rs = record { apart = λ a b h k e. cc }

-- ---- what stands in the halves

pub from_first : (p : Program) (r : Rule ErasingName) → IsIn (first_half p) r
    → (a : Rule Name) × IsIn (bennett p) a × (renamed First a ≡ r)
unfolding first_half
from_first p r h = from_map (renamed First) (bennett p) r h

-- a quadruple of the second half is one of the second machine's, turned round, its tapes exchanged and its states named
-- anew
pub from_second : (p q : Program) (s : Rule ErasingName) → IsIn (second_half p q) s
    → (b : Rule Name) × IsIn (bennett q) b × (renamed (second_name p q) (exchanged_rule (turned b)) ≡ s)
unfolding second_half
from_second p q s h =
    let one = from_map (renamed (second_name p q)) (backward q) s h in
    let two = from_map exchanged_rule (turned_list (bennett q)) one.0 one.1 in
    let three = from_turned (bennett q) two.0 two.1 in (
      three.0,
      three.1,
      ap (λ t. renamed (second_name p q) (exchanged_rule t)) three.2 ∙ ap (renamed (second_name p q)) two.2 ∙ one.2,
    )

module _ (p q : Program) (left : IsStandard p.quints) (right : IsStandard q.quints) where
  pub first_from : (r : Rule ErasingName) → IsIn (first_half p) r → (x : Name) × (r.from ≡ First x) × (x ≢ final_name p)
  first_from r h = let a = from_first p r h in (
    a.0.from,
    sym (ap (λ (t : Rule ErasingName). t.from) a.2),
    (list_uniform p left).not_left a.0 a.1,
  )

  first_to : (r : Rule ErasingName) → IsIn (first_half p) r → (x : Name) × (r.to ≡ First x)
  first_to r h = let a = from_first p r h in (a.0.to, sym (ap (λ (t : Rule ErasingName). t.to) a.2))

  second_from : (s : Rule ErasingName) → IsIn (second_half p q) s
      → (y : Name) × (s.from ≡ second_name p q y) × (y ≢ initial_name q)
  second_from s h = let b = from_second p q s h in (
    b.0.to,
    sym (ap (λ (t : Rule ErasingName). t.from) b.2),
    (list_uniform q right).not_entered b.0 b.1,
  )

  second_to : (s : Rule ErasingName) → IsIn (second_half p q) s
      → (y : Name) × (s.to ≡ second_name p q y) × (y ≢ final_name q)
  second_to s h = let b = from_second p q s h in (
    b.0.from,
    sym (ap (λ (t : Rule ErasingName). t.to) b.2),
    (list_uniform q right).not_left b.0 b.1,
  )

  pub halves_join : JoinsAt (erasing_middle p) (erasing_initial p) (erasing_final q) (first_half p) (second_half p q)
  halves_join = record {
    not_left = λ r h is. let a = first_from r h in let same : First a.0 ≡ First (final_name p) =
        sym a.1 ∙ is in a.2 (cc);
    not_entered = λ s h is. let b = second_to s h in b.2 (second_as_first p q (final_name p) b.0 (sym is ∙ b.1)).1;
    leave_apart = λ r s h k is. let a = first_from r h in let b =
        second_from s k in a.2 (second_as_first p q a.0 b.0 (sym a.1 ∙ is ∙ b.1)).0;
    enter_apart = λ r s h k is. let a = first_to r h in let b =
        second_to s k in b.2 (second_as_first p q a.0 b.0 (sym a.1 ∙ is ∙ b.1)).1;
    not_back = λ r s h k is. let a = first_from r h in let b =
        second_to s k in a.2 (second_as_first p q a.0 b.0 (sym a.1 ∙ sym is ∙ b.1)).0;
    through = λ r s h k is. let a = first_to r h in let b = second_from s k in a.1
        ∙ ap First (second_as_first p q a.0 b.0 (sym a.1 ∙ is ∙ b.1)).0;
    before_final = λ r h. (
      λ is. let a = first_from r h in let same : First a.0 ≡ Second (initial_name q) = sym a.1 ∙ is in cc,
      λ is. let a = first_to r h in let same : First a.0 ≡ Second (initial_name q) = sym a.1 ∙ is in cc,
    );
    after_initial = λ s h is. let b = second_to s h in b.2 (second_as_first p q (initial_name p) b.0 (sym is ∙ b.1)).1;
  }

pub erasing_joins : ErasingJoins
erasing_joins p q left right = halves_join p q left right

-- ---- the tests

-- the ends of a list are states of it
pub initial_in : (p : Program) → 0 < length p.quints → IsIn (states_in (bennett p)) (initial_name p)
initial_in p some = let first = (list_has_ends p some).0 in subst (IsIn (states_in (bennett p))) first.2
    (from_in (bennett p) first.0 (record { place = 1; stands = first.1 }))

pub final_in : (p : Program) → 0 < length p.quints → IsIn (states_in (bennett p)) (final_name p)
final_in p some = let last = (list_has_ends p some).1 in subst (IsIn (states_in (bennett p))) last.2
    (to_in (bennett p) last.0 (record { place = length (bennett p); stands = last.1 }))

-- and of the list backward
pub in_backward : (q : Program) (r : Rule Name) → IsIn (bennett q) r → IsIn (backward q) (exchanged_rule (turned r))
in_backward q r h = in_map exchanged_rule (turned_list (bennett q)) (turned r) (in_turned (bennett q) r h)

pub back_initial_in : (q : Program) → 0 < length q.quints → IsIn (states_in (backward q)) (final_name q)
back_initial_in q some = let last = (list_has_ends q some).1 in subst (IsIn (states_in (backward q))) last.2
    (from_in (backward q) (exchanged_rule (turned last.0)) (in_backward q last.0
    (record { place = length (bennett q); stands = last.1 })))

pub back_final_in : (q : Program) → 0 < length q.quints → IsIn (states_in (backward q)) (initial_name q)
back_final_in q some = let first = (list_has_ends q some).0 in subst (IsIn (states_in (backward q))) first.2
    (to_in (backward q) (exchanged_rule (turned first.0)) (in_backward q first.0
    (record { place = 1; stands = first.1 })))

pub backward_deterministic : (q : Program) → IsStandard q.quints → HasNoClash Domain (turned_list (bennett q))
backward_deterministic q s = turned_deterministic (bennett q) (list_reversible q s)

module _ (p q : Program) (left : IsStandardMachine p) (right : IsStandardMachine q) where
  first_deterministic : HasNoClash Domain (first_half p)
  unfolding first_half
  first_deterministic = no_clash_renamed First (bennett p) (first_apart (bennett p)) Domain
      (list_deterministic p left.standard)

  first_reversible : HasNoClash Range (first_half p)
  unfolding first_half
  first_reversible = no_clash_renamed First (bennett p) (first_apart (bennett p)) Range
      (list_reversible p left.standard)

  first_uniform : IsUniformFrom (erasing_initial p) (erasing_middle p) (first_half p)
  unfolding first_half
  first_uniform = uniform_renamed First (bennett p) (first_apart (bennett p)) (initial_name p) (final_name p)
      (initial_in p left.machine.some) (final_in p left.machine.some) (list_uniform p left.standard)

  second_deterministic : HasNoClash Domain (second_half p q)
  unfolding second_half
  second_deterministic = no_clash_renamed (second_name p q) (backward q) (second_apart p q (backward q)) Domain
      (exchanged_free Domain (turned_list (bennett q)) (backward_deterministic q right.standard))

  second_reversible : HasNoClash Range (second_half p q)
  unfolding second_half
  second_reversible = no_clash_renamed (second_name p q) (backward q) (second_apart p q (backward q)) Range
      (exchanged_free Range (turned_list (bennett q)) (turned_reversible (bennett q)
      (list_deterministic q right.standard)))

  second_uniform : IsUniformFrom (erasing_middle p) (erasing_final q) (second_half p q)
  unfolding second_half
  second_uniform =
      subst (λ n. IsUniformFrom n (erasing_final q) (second_half p q)) (second_final p q)
      (uniform_renamed (second_name p q) (backward q) (second_apart p q (backward q)) (final_name q) (initial_name q)
      (back_initial_in q right.machine.some) (back_final_in q right.machine.some)
      (exchanged_uniform (turned_list (bennett q)) (final_name q) (initial_name q)
      (turned_uniform (bennett q) (initial_name q) (final_name q) (list_uniform q right.standard))))

pub erasing_passes_tests : ErasingPassesTests
erasing_passes_tests p q left right =
    let joins = halves_join p q left.standard right.standard in (
      joined_free (erasing_middle p) (erasing_initial p) (erasing_final q) (first_half p) (second_half p q) joins Domain
          (first_deterministic p q left right) (second_deterministic p q left right),
      joined_free (erasing_middle p) (erasing_initial p) (erasing_final q) (first_half p) (second_half p q) joins Range
          (first_reversible p q left right) (second_reversible p q left right),
      joined_uniform (erasing_middle p) (erasing_initial p) (erasing_final q) (first_half p) (second_half p q) joins
          (first_uniform p q left right) (second_uniform p q left right),
    )

-- ---- counts

length-first : (p : Program) → length (first_half p) ≡ length (bennett p)
unfolding first_half
length-first p = length-map (bennett p) (renamed First)

pub length-second : (p q : Program) → length (second_half p q) ≡ length (bennett q)
unfolding second_half
length-second p q = length-map (backward q) (renamed (second_name p q))
    ∙ length-map (turned_list (bennett q)) exchanged_rule ∙ length-map (reverse (bennett q)) turned
    ∙ length-reverse (bennett q)

pub erasing_has_length : ErasingHasLength
erasing_has_length p q some other =
    let one : length (bennett p) ≡ 4 * length p.quints + 2 * p.symbols + 3 = list_has_length p some in
    let two : length (bennett q) ≡ 4 * length q.quints + 2 * q.symbols + 3 = list_has_length q other in
    omega (arith, length-append (first_half p) (second_half p q), length-first p, length-second p q, one, two)

more_symbols : (m n : ℕ) (d : Deed) → m ≤ n → IsDeedInRange m d → IsDeedInRange n d
more_symbols m n (Rewrite r w) more h = let read : r < m = h.0 in let written : w < m =
    h.1 in (omega arith, omega arith)
more_symbols m n (Move s) more h = tt

turned_in_range : (m : ℕ) (d : Deed) → IsDeedInRange m d → IsDeedInRange m (turned_deed d)
turned_in_range m (Rewrite r w) h = (h.1, h.0)
turned_in_range m (Move s) h = tt

pub erasing_is_in_range : ErasingIsInRange
erasing_is_in_range p q left right same r h =
    elim (in_append (first_half p) (second_half p q) r h) [
      | inl first ↦
          let a = from_first p r first in
          let among = list_is_in_range p left a.0 a.1 in
          subst (λ (t : Rule ErasingName). AreDeedsInRange (erasing_symbols p q) (deeds_of t)) a.2 (
            among.0,
            (
              more_symbols (length p.quints + 1) (max (length p.quints) (length q.quints) + 1) a.0.two
                  (omega arith) among.1.0,
              (among.1.1.0, tt),
            ),
          )
      | inr second ↦
          let b = from_second p q r second in
          let among = list_is_in_range q right b.0 b.1 in
          let fewer : q.symbols ≤ p.symbols = omega arith in
          subst (λ (t : Rule ErasingName). AreDeedsInRange (erasing_symbols p q) (deeds_of t)) b.2 (
            more_symbols q.symbols p.symbols (turned_deed b.0.three) fewer
                (turned_in_range q.symbols b.0.three among.1.1.0),
            (
              more_symbols (length q.quints + 1) (max (length p.quints) (length q.quints) + 1) (turned_deed b.0.two)
                  (omega arith) (turned_in_range (length q.quints + 1) b.0.two among.1.0),
              (
                more_symbols q.symbols p.symbols (turned_deed b.0.one) fewer
                    (turned_in_range q.symbols b.0.one among.0),
                tt,
              ),
            ),
          )
    ]

pub least_erasing_is_listed : LeastErasingIsListed
unfolding bennett first_half second_half
least_erasing_is_listed = (refl, refl, refl, refl)
