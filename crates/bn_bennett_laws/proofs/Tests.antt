-- The local tests on Bennett's list: no two quadruples overlap.
use Rattle.std.specs.Prelude.{◌≡◌, ◌≢◌, ℕ, ◌-◌, ◌<◌, List, [], ◌∷◌, ◌++◌, length, map, reverse}
use Rattle.std.proofs.Common.{sym, ◌∙◌, arith, inl}
use Rattle.bn_machine.specs.Machine.{Program, final_of}
use Rattle.bn_machine.specs.declared.quint.Quint.{Quint}
use Rattle.bn_machine.specs.Standard.{IsStandard, IsUnambiguous, HasLoneFinal}
use Rattle.bn_quad.specs.Quadruples.{Rule}
use Rattle.bn_quad.specs.Overlap.{OverlapsInDomain, OverlapsInRange, IsDeterministic, IsReversible}
use Rattle.bn_bennett_laws.proofs.MembershipLemmas.{each_of_one, each_of_two}
use Rattle.bn_bennett_laws.specs.List.{bennett, writes_ahead, shifts_ahead, begins_copy, goes_right, copies_letter}
use Rattle.bn_bennett_laws.specs.List.{turns_left, goes_left, passes_letter, ends_copy, shifts_back, writes_back}
use Rattle.bn_bennett_laws.specs.List.{numbered_quints, nonblank_symbols, compute_rules, copy_rules, retrace_rules}
use Rattle.bn_bennett_laws.proofs.ListLemmas.{nth_numbered, each_of_letters, each_compute_rule, each_copy_rule}
use Rattle.bn_bennett_laws.proofs.ListLemmas.{each_retrace_rule}
use Rattle.bn_bennett_laws.proofs.Apart.{Apart, Across, apart_append, apart_one, apart_two, apart_pairs, across_append}
use Rattle.bn_bennett_laws.proofs.Apart.{across_two_two, apart_reverse, apart_places, apart_from_places, apart_map}
use Rattle.bn_bennett_laws.proofs.Apart.{apart_weaker, range_apart}
use Rattle.bn_bennett_laws.specs.declared.name.Name.{Name}

-- ---- the list, each two of its quadruples in a relation

-- two numbered quintuples that differ in number, and in state or scanned symbol
pub record Differ (d e : ℕ × Quint) : Type 0 where
  pub number : d.0 ≢ e.0
  pub reading : d.1.state ≡ e.1.state → d.1.read ≡ e.1.read → ⊥

differ_turned : (d e : ℕ × Quint) → Differ d e → Differ e d
differ_turned d e h = record {
  number = λ same. h.number (sym same);
  reading = λ states reads. h.reading (sym states) (sym reads);
}

-- of unambiguous quintuples each two differ
numbered_differ : (qs : List Quint) → IsUnambiguous qs → Apart Differ (numbered_quints qs)
numbered_differ qs clear = apart_from_places Differ (numbered_quints qs) (λ i j d e low h k.
    let first = nth_numbered qs i d h in
    let second = nth_numbered qs j e k in
    record {
      number = λ same. let equal : i ≡ j = sym first.0 ∙ same ∙ second.0 in omega arith;
      reading = λ states reads. clear.none i j (record {
        first = d.1;
        second = e.1;
        first_stands = first.1;
        second_stands = second.1;
        clashes = record { before = low; state = states; read = reads };
      });
    })

module _ (R : Rule Name → Rule Name → Type 0) where
  -- the quadruples of one kind, one a letter
  apart_letters : (kind : ℕ → Rule Name) (z : ℕ) → ((x y : ℕ) → x ≢ y → R (kind x) (kind y))
      → Apart R (map kind (nonblank_symbols z))
  apart_letters kind z each = apart_map R kind (nonblank_symbols z)
      (apart_weaker (λ x y. x ≢ y) (λ x y. R (kind x) (kind y)) (nonblank_symbols z) each (range_apart 1 (z - 1)))

  across_two_one : (a b c : Rule Name) → R a c → R b c → Across R (a ∷ b ∷ []) (c ∷ [])
  across_two_one a b c ac bc = λ v w h k. each_of_two (λ r. R r w) a b (each_of_one (R a) c ac w k)
      (each_of_one (R b) c bc w k) v h

  across_two_letters : (a b : Rule Name) (kind : ℕ → Rule Name) (z : ℕ) → ((x : ℕ) → 0 < x → R a (kind x))
      → ((x : ℕ) → 0 < x → R b (kind x)) → Across R (a ∷ b ∷ []) (map kind (nonblank_symbols z))
  across_two_letters a b kind z one two = λ v w h k. each_of_two (λ r. R r w) a b
      (each_of_letters (R a) kind z (λ x low high. one x low) w k)
      (each_of_letters (R b) kind z (λ x low high. two x low) w k) v h

  across_letters_two : (kind : ℕ → Rule Name) (z : ℕ) (a b : Rule Name) → ((x : ℕ) → 0 < x → R (kind x) a)
      → ((x : ℕ) → 0 < x → R (kind x) b) → Across R (map kind (nonblank_symbols z)) (a ∷ b ∷ [])
  across_letters_two kind z a b one two = λ v w h k. each_of_letters (λ r. R r w) kind z
      (λ x low high. each_of_two (R (kind x)) a b (one x low) (two x low) w k) v h

  across_letters_one : (kind : ℕ → Rule Name) (z : ℕ) (a : Rule Name) → ((x : ℕ) → 0 < x → R (kind x) a)
      → Across R (map kind (nonblank_symbols z)) (a ∷ [])
  across_letters_one kind z a one = λ v w h k. each_of_letters (λ r. R r w) kind z
      (λ x low high. each_of_one (R (kind x)) a (one x low) w k) v h

  across_letters : (kind other : ℕ → Rule Name) (z : ℕ) → ((x y : ℕ) → R (kind x) (other y))
      → Across R (map kind (nonblank_symbols z)) (map other (nonblank_symbols z))
  across_letters kind other z each = λ v w h k. each_of_letters (λ r. R r w) kind z
      (λ x low high. each_of_letters (R (kind x)) other z (λ y low_y high_y. each x y) w k) v h

  -- the quadruples that copy, one premise for each two kinds
  apart_copy : (f n z : ℕ)
      → R (begins_copy f n) goes_right → ((x y : ℕ) → x ≢ y → R (copies_letter n x) (copies_letter n y))
      → R (turns_left n) goes_left → ((x y : ℕ) → x ≢ y → R (passes_letter n x) (passes_letter n y))
      → ((x : ℕ) → 0 < x → R (begins_copy f n) (copies_letter n x))
      → ((x : ℕ) → 0 < x → R goes_right (copies_letter n x))
      → R (begins_copy f n) (turns_left n) → R (begins_copy f n) goes_left → R goes_right (turns_left n)
      → R goes_right goes_left
      → ((x : ℕ) → 0 < x → R (copies_letter n x) (turns_left n)) → ((x : ℕ) → 0 < x → R (copies_letter n x) goes_left)
      → ((x : ℕ) → 0 < x → R (begins_copy f n) (passes_letter n x))
      → ((x : ℕ) → 0 < x → R goes_right (passes_letter n x)) → ((x y : ℕ)
      → R (copies_letter n x) (passes_letter n y)) → ((x : ℕ) → 0 < x → R (turns_left n) (passes_letter n x))
      → ((x : ℕ) → 0 < x → R goes_left (passes_letter n x))
      → R (begins_copy f n) (ends_copy f n) → R goes_right (ends_copy f n)
      → ((x : ℕ) → 0 < x → R (copies_letter n x) (ends_copy f n)) → R (turns_left n) (ends_copy f n)
      → R goes_left (ends_copy f n) → ((x : ℕ) → 0 < x → R (passes_letter n x) (ends_copy f n))
      → Apart R (copy_rules f n z)
  apart_copy f n z br cc' tl pp bc rc bt bl rt rl ct cl bp rp cp tp lp be re ce te le pe =
      let a = begins_copy f n ∷ goes_right ∷ [] in
      let b = map (copies_letter n) (nonblank_symbols z) in
      let c = turns_left n ∷ goes_left ∷ [] in
      let d = map (passes_letter n) (nonblank_symbols z) in
      let e = ends_copy f n ∷ [] in
      let one = apart_append R a b (apart_two R (begins_copy f n) goes_right br) (apart_letters (copies_letter n) z cc')
      (across_two_letters (begins_copy f n) goes_right (copies_letter n) z bc rc) in
      let two = apart_append R (a ++ b) c one (apart_two R (turns_left n) goes_left tl)
      (across_append R a b c (across_two_two R (begins_copy f n) goes_right (turns_left n) goes_left bt bl rt rl)
      (across_letters_two (copies_letter n) z (turns_left n) goes_left ct cl)) in
      let three = apart_append R (a ++ b ++ c) d two (apart_letters (passes_letter n) z pp)
      (across_append R (a ++ b) c d
      (across_append R a b d (across_two_letters (begins_copy f n) goes_right (passes_letter n) z bp rp)
      (across_letters (copies_letter n) (passes_letter n) z cp))
      (across_two_letters (turns_left n) goes_left (passes_letter n) z tp lp)) in
      apart_append R (a ++ b ++ c ++ d) e three (apart_one R (ends_copy f n))
      (across_append R (a ++ b ++ c) d e
      (across_append R (a ++ b) c e
      (across_append R a b e (across_two_one (begins_copy f n) goes_right (ends_copy f n) be re)
      (across_letters_one (copies_letter n) z (ends_copy f n) ce))
      (across_two_one (turns_left n) goes_left (ends_copy f n) te le))
      (across_letters_one (passes_letter n) z (ends_copy f n) pe))

-- ---- domain

AreApartInDomain : Rule Name → Rule Name → Type 0
AreApartInDomain r s = OverlapsInDomain r s → ⊥

module _ (qs : List Quint) (clear : IsUnambiguous qs) (lone : HasLoneFinal qs) where
  compute_domain : Apart AreApartInDomain (compute_rules qs)
  unfolding AreApartInDomain
  compute_domain =
      apart_pairs AreApartInDomain Differ (λ e. writes_ahead e.0 e.1) (λ e. shifts_ahead e.0 e.1) (numbered_quints qs)
      (numbered_differ qs clear) (λ e h. cc)
      (λ d e differ h. differ.reading (cc) h.tapes.0)
      (λ d e h. cc)
      (λ d e h. cc)
      (λ d e differ h. differ.number (cc))

  copy_domain : (f n z : ℕ) → Apart AreApartInDomain (copy_rules f n z)
  unfolding AreApartInDomain
  copy_domain f n z =
      apart_copy AreApartInDomain f n z (λ h. cc) (λ x y other h. other h.tapes.0) (λ h. cc)
      (λ x y other h. other h.tapes.0)
      (λ x some h. cc) (λ x some h. cc) (λ h. cc) (λ h. cc) (λ h. cc) (λ h. cc)
      (λ x some h. let blank : x ≡ 0 = h.tapes.0 in omega arith) (λ x some h. cc)
      (λ x some h. cc) (λ x some h. cc) (λ x y h. cc) (λ x some h. cc) (λ x some h. cc)
      (λ h. cc) (λ h. cc) (λ x some h. cc) (λ h. cc) (λ h. cc) (λ x some h. let blank : x
      ≡ 0 = h.tapes.0 in omega arith)

  retrace_domain : Apart AreApartInDomain (retrace_rules qs)
  unfolding AreApartInDomain
  retrace_domain =
      apart_pairs AreApartInDomain Differ (λ e. shifts_back e.0 e.1) (λ e. writes_back e.0 e.1)
      (reverse (numbered_quints qs)) (apart_reverse Differ differ_turned (numbered_quints qs)
      (numbered_differ qs clear)) (λ e h. cc)
      (λ d e differ h. differ.number h.tapes.1.0)
      (λ d e h. cc)
      (λ d e h. cc)
      (λ d e differ h. differ.number (cc))

  -- copying begins in the final state, which no quintuple leaves
  compute_copy_domain : (n z : ℕ) → Across AreApartInDomain (compute_rules qs) (copy_rules (final_of qs) n z)
  unfolding AreApartInDomain
  compute_copy_domain n z = λ r s h k.
      each_compute_rule (λ r. AreApartInDomain r s) qs
      (λ m q e. each_copy_rule (AreApartInDomain (writes_ahead m q)) (final_of qs) n z
      (λ h. lone.none m (record { quint = q; stands = e; names = inl (cc) })) (λ h. cc) (λ x low high h. cc)
      (λ h. cc) (λ h. cc) (λ x low high h. cc) (λ h. cc) s k)
      (λ m q e. each_copy_rule (AreApartInDomain (shifts_ahead m q)) (final_of qs) n z (λ h. cc) (λ h. cc)
      (λ x low high h. cc) (λ h. cc) (λ h. cc) (λ x low high h. cc) (λ h. cc) s k)
      r h

  compute_retrace_domain : Across AreApartInDomain (compute_rules qs) (retrace_rules qs)
  unfolding AreApartInDomain
  compute_retrace_domain = λ r s h k.
      each_compute_rule (λ r. AreApartInDomain r s) qs
      (λ m q e. each_retrace_rule (AreApartInDomain (writes_ahead m q)) qs (λ i t f h. cc) (λ i t f h. cc) s k)
      (λ m q e. each_retrace_rule (AreApartInDomain (shifts_ahead m q)) qs (λ i t f h. cc) (λ i t f h. cc) s k)
      r h

  copy_retrace_domain : (f n z : ℕ) → Across AreApartInDomain (copy_rules f n z) (retrace_rules qs)
  unfolding AreApartInDomain
  copy_retrace_domain f n z = λ r s h k.
      each_retrace_rule (λ s. AreApartInDomain r s) qs
      (λ m q e. each_copy_rule (λ r. AreApartInDomain r (shifts_back m q)) f n z (λ h. cc) (λ h. cc)
      (λ x low high h. cc) (λ h. cc) (λ h. cc) (λ x low high h. cc) (λ h. cc) r h)
      (λ m q e. each_copy_rule (λ r. AreApartInDomain r (writes_back m q)) f n z (λ h. cc) (λ h. cc)
      (λ x low high h. cc) (λ h. cc) (λ h. cc) (λ x low high h. cc) (λ h. cc) r h)
      s k

-- ---- range

AreApartInRange : Rule Name → Rule Name → Type 0
AreApartInRange r s = OverlapsInRange r s → ⊥

module _ (qs : List Quint) (clear : IsUnambiguous qs) (lone : HasLoneFinal qs) where
  compute_range : Apart AreApartInRange (compute_rules qs)
  unfolding AreApartInRange
  compute_range =
      apart_pairs AreApartInRange Differ (λ e. writes_ahead e.0 e.1) (λ e. shifts_ahead e.0 e.1) (numbered_quints qs)
      (numbered_differ qs clear) (λ e h. cc)
      (λ d e differ h. differ.number (cc))
      (λ d e h. cc)
      (λ d e h. cc)
      (λ d e differ h. differ.number h.tapes.1.0)

  copy_range : (f n z : ℕ) → Apart AreApartInRange (copy_rules f n z)
  unfolding AreApartInRange
  copy_range f n z =
      apart_copy AreApartInRange f n z (λ h. cc) (λ x y other h. other h.tapes.0) (λ h. cc)
      (λ x y other h. other h.tapes.0)
      (λ x some h. let blank : 0 ≡ x = h.tapes.0 in omega arith) (λ x some h. cc) (λ h. cc) (λ h. cc) (λ h. cc)
      (λ h. cc)
      (λ x some h. cc) (λ x some h. cc)
      (λ x some h. cc) (λ x some h. cc) (λ x y h. cc) (λ x some h. let blank : 0 ≡ x = h.tapes.0 in omega arith)
      (λ x some h. cc)
      (λ h. cc) (λ h. cc) (λ x some h. cc) (λ h. cc) (λ h. cc) (λ x some h. cc)

  retrace_range : Apart AreApartInRange (retrace_rules qs)
  unfolding AreApartInRange
  retrace_range =
      apart_pairs AreApartInRange Differ (λ e. shifts_back e.0 e.1) (λ e. writes_back e.0 e.1)
      (reverse (numbered_quints qs)) (apart_reverse Differ differ_turned (numbered_quints qs)
      (numbered_differ qs clear)) (λ e h. cc)
      (λ d e differ h. differ.number (cc))
      (λ d e h. cc)
      (λ d e h. cc)
      (λ d e differ h. differ.reading (cc) h.tapes.0)

  compute_copy_range : (f n z : ℕ) → Across AreApartInRange (compute_rules qs) (copy_rules f n z)
  unfolding AreApartInRange
  compute_copy_range f n z = λ r s h k.
      each_compute_rule (λ r. AreApartInRange r s) qs
      (λ m q e. each_copy_rule (AreApartInRange (writes_ahead m q)) f n z (λ h. cc) (λ h. cc) (λ x low high h. cc)
      (λ h. cc) (λ h. cc) (λ x low high h. cc) (λ h. cc) s k)
      (λ m q e. each_copy_rule (AreApartInRange (shifts_ahead m q)) f n z (λ h. cc) (λ h. cc) (λ x low high h. cc)
      (λ h. cc) (λ h. cc) (λ x low high h. cc) (λ h. cc) s k)
      r h

  compute_retrace_range : Across AreApartInRange (compute_rules qs) (retrace_rules qs)
  unfolding AreApartInRange
  compute_retrace_range = λ r s h k.
      each_compute_rule (λ r. AreApartInRange r s) qs
      (λ m q e. each_retrace_rule (AreApartInRange (writes_ahead m q)) qs (λ i t f h. cc) (λ i t f h. cc) s k)
      (λ m q e. each_retrace_rule (AreApartInRange (shifts_ahead m q)) qs (λ i t f h. cc) (λ i t f h. cc) s k)
      r h

  -- retrace begins in the final state, which no quintuple leaves
  copy_retrace_range : (n z : ℕ) → Across AreApartInRange (copy_rules (final_of qs) n z) (retrace_rules qs)
  unfolding AreApartInRange
  copy_retrace_range n z = λ r s h k.
      each_retrace_rule (λ s. AreApartInRange r s) qs
      (λ m q e. each_copy_rule (λ r. AreApartInRange r (shifts_back m q)) (final_of qs) n z (λ h. cc) (λ h. cc)
      (λ x low high h. cc) (λ h. cc) (λ h. cc) (λ x low high h. cc) (λ h. cc) r h)
      (λ m q e. each_copy_rule (λ r. AreApartInRange r (writes_back m q)) (final_of qs) n z (λ h. cc) (λ h. cc)
      (λ x low high h. cc) (λ h. cc) (λ h. cc) (λ x low high h. cc)
      (λ h. lone.none m (record { quint = q; stands = e; names = inl (cc) })) r h)
      s k

-- ---- the whole list

apart_bennett : (R : Rule Name → Rule Name → Type 0) (p : Program) → let copy =
    copy_rules (final_of p.quints) (length p.quints) p.symbols in Apart R (compute_rules p.quints) → Apart R copy
    → Apart R (retrace_rules p.quints) → Across R (compute_rules p.quints) copy
    → Across R (compute_rules p.quints) (retrace_rules p.quints) → Across R copy (retrace_rules p.quints)
    → Apart R (bennett p)
unfolding bennett
apart_bennett R p a b c ab ac bc =
    let copy = copy_rules (final_of p.quints) (length p.quints) p.symbols in
    apart_append R (compute_rules p.quints ++ copy) (retrace_rules p.quints)
    (apart_append R (compute_rules p.quints) copy a b ab) c (across_append R (compute_rules p.quints) copy
    (retrace_rules p.quints) ac bc)

pub list_deterministic : (p : Program) → IsStandard p.quints → IsDeterministic (bennett p)
unfolding AreApartInDomain
list_deterministic p s = record {
  none = λ i j clash. apart_places AreApartInDomain (bennett p) i j clash.first clash.second
      (apart_bennett AreApartInDomain p (compute_domain p.quints s.unambiguous s.lone_final)
      (copy_domain p.quints s.unambiguous s.lone_final (final_of p.quints) (length p.quints) p.symbols)
      (retrace_domain p.quints s.unambiguous s.lone_final)
      (compute_copy_domain p.quints s.unambiguous s.lone_final (length p.quints) p.symbols)
      (compute_retrace_domain p.quints s.unambiguous s.lone_final)
      (copy_retrace_domain p.quints s.unambiguous s.lone_final (final_of p.quints) (length p.quints) p.symbols))
      clash.before clash.first_stands clash.second_stands clash.clashes;
}

pub list_reversible : (p : Program) → IsStandard p.quints → IsReversible (bennett p)
unfolding AreApartInRange
list_reversible p s = record {
  none = λ i j clash. apart_places AreApartInRange (bennett p) i j clash.first clash.second
      (apart_bennett AreApartInRange p (compute_range p.quints s.unambiguous s.lone_final)
      (copy_range p.quints s.unambiguous s.lone_final (final_of p.quints) (length p.quints) p.symbols)
      (retrace_range p.quints s.unambiguous s.lone_final)
      (compute_copy_range p.quints s.unambiguous s.lone_final (final_of p.quints) (length p.quints) p.symbols)
      (compute_retrace_range p.quints s.unambiguous s.lone_final)
      (copy_retrace_range p.quints s.unambiguous s.lone_final (length p.quints) p.symbols))
      clash.before clash.first_stands clash.second_stands clash.clashes;
}
