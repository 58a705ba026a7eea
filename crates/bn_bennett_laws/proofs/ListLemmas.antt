-- Which quadruples stand in Bennett's list: those of each kind, and no others.
use Rattle.std.specs.Prelude.{◌≡◌, ℕ, zero, suc, ◌+◌, ◌-◌, ◌<◌, ◌≤◌, List, [], ◌∷◌, ◌++◌, length, map, reverse, Some}
use Rattle.std.specs.Prelude.{slice_get}
use Rattle.std.specs.List.{flat_map, enumerate_from, range_with_len}
use Rattle.std.proofs.Common.{sym, ap, subst, arith, inl, inr}
use Rattle.std.proofs.lemmas.Bool.{cases_lt}
use Rattle.std.proofs.lemmas.List.{reverse-reverse}
use Rattle.bn_machine.specs.Machine.{Program, final_of}
use Rattle.bn_lists.specs.Lists.{nth, IsIn}
use Rattle.bn_machine.specs.declared.quint.Quint.{Quint}
use Rattle.bn_quad.specs.Quadruples.{Rule}
use Rattle.bn_bennett_laws.proofs.MembershipLemmas.{in_head, in_tail, in_cases, not_in_empty, in_left, in_right}
use Rattle.bn_bennett_laws.proofs.MembershipLemmas.{in_append, in_reverse, in_map, from_map, in_flat_map, from_flat_map}
use Rattle.bn_bennett_laws.proofs.MembershipLemmas.{each_of_one, each_of_two}
use Rattle.bn_bennett_laws.specs.List.{writes_ahead, shifts_ahead, begins_copy, goes_right, copies_letter, turns_left}
use Rattle.bn_bennett_laws.specs.List.{goes_left, passes_letter, ends_copy, shifts_back, writes_back, numbered_quints}
use Rattle.bn_bennett_laws.specs.List.{nonblank_symbols, compute_pair, retrace_pair, compute_rules, copy_rules}
use Rattle.bn_bennett_laws.specs.List.{retrace_rules, bennett}
use Rattle.bn_bennett_laws.specs.declared.name.Name.{Name}

in_enumerate : (k : ℕ) (qs : List Quint) (i : ℕ) (q : Quint) → slice_get qs i ≡ Some q → (m : ℕ) → m ≡ k + i
    → IsIn (enumerate_from k qs) (m, q)
in_enumerate k [] i q e m sum = absurd (cc)
in_enumerate k (r ∷ qs) zero q e m sum =
    let same : m ≡ k = omega arith in
    let there : r ≡ q = cc in
    subst (λ n. IsIn (enumerate_from k (r ∷ qs)) (n, q)) (sym same)
    (subst (λ s. IsIn (enumerate_from k (r ∷ qs)) (k, s)) there (in_head (k, r) (enumerate_from (k + 1) qs)))
in_enumerate k (r ∷ qs) (suc i) q e m sum = in_tail (k, r) (m, q) (enumerate_from (k + 1) qs)
    (in_enumerate (k + 1) qs i q e m (omega arith))

from_enumerate : (k : ℕ) (qs : List Quint) (m : ℕ) (q : Quint) → IsIn (enumerate_from k qs) (m, q)
    → (i : ℕ) × (m ≡ k + i) × (slice_get qs i ≡ Some q)
from_enumerate k [] m q h = absurd (not_in_empty (m, q) h)
from_enumerate k (r ∷ qs) m q h =
    elim (in_cases (k, r) (m, q) (enumerate_from (k + 1) qs) h) [
      | inl same ↦ let number : k ≡ m = ap (λ (e : ℕ × Quint). e.0) same in
          (0, omega arith, ap (λ (e : ℕ × Quint). Some e.1) same)
      | inr further ↦ let found = from_enumerate (k + 1) qs m q further in let sum : m ≡ (k + 1) + found.0 =
          found.1 in (suc found.0, omega arith, found.2)
    ]

-- the numbered quintuple at a place has that number
place_of_enumerate : (k : ℕ) (qs : List Quint) (i : ℕ) (e : ℕ × Quint) → slice_get (enumerate_from k qs) i ≡ Some e
    → (e.0 ≡ k + i) × (slice_get qs i ≡ Some e.1)
place_of_enumerate k [] i e h = absurd (cc)
place_of_enumerate k (q ∷ qs) zero e h =
    let same : (k, q) ≡ e = cc in
    let number : k ≡ e.0 = ap (λ (d : ℕ × Quint). d.0) same in
    (omega arith, ap (λ (d : ℕ × Quint). Some d.1) same)
place_of_enumerate k (q ∷ qs) (suc i) e h =
    let found = place_of_enumerate (k + 1) qs i e h in
    let sum : e.0 ≡ (k + 1) + i = found.0 in
    (omega arith, found.1)

pub nth_numbered : (qs : List Quint) (n : ℕ) (e : ℕ × Quint) → nth (numbered_quints qs) n ≡ Some e
    → (e.0 ≡ n) × (nth qs n ≡ Some e.1)
nth_numbered qs zero e h = absurd (cc)
nth_numbered qs (suc i) e h = let found = place_of_enumerate 1 qs i e h in let sum : e.0 ≡ 1 + i =
    found.0 in (omega arith, found.1)

pub in_numbered : (qs : List Quint) (m : ℕ) (q : Quint) → nth qs m ≡ Some q → IsIn (numbered_quints qs) (m, q)
in_numbered qs zero q e = absurd (cc)
in_numbered qs (suc i) q e = in_enumerate 1 qs i q e (suc i) (omega arith)

pub from_numbered : (qs : List Quint) (m : ℕ) (q : Quint) → IsIn (numbered_quints qs) (m, q) → nth qs m ≡ Some q
from_numbered qs m q h =
    let found = from_enumerate 1 qs m q h in
    let sum : m ≡ 1 + found.0 = found.1 in
    let same : suc found.0 ≡ m = omega arith in
    subst (λ n. nth qs n ≡ Some q) same found.2

pub in_range : (a n x : ℕ) → a ≤ x → x < a + n → IsIn (range_with_len a n) x
in_range a zero x low high = absurd (omega arith)
in_range a (suc n) x low high =
    elim (cases_lt a x) [
      | inl h ↦ in_tail a x (range_with_len (a + 1) n) (in_range (a + 1) n x (omega arith) (omega arith))
      | inr h ↦ let same : a ≡ x = omega arith in subst (IsIn (range_with_len a (suc n))) same
          (in_head a (range_with_len (a + 1) n))
    ]

pub from_range : (a n x : ℕ) → IsIn (range_with_len a n) x → (a ≤ x) × (x < a + n)
from_range a zero x h = absurd (not_in_empty x h)
from_range a (suc n) x h =
    elim (in_cases a x (range_with_len (a + 1) n) h) [
      | inl same ↦ (omega arith, omega arith)
      | inr further ↦ let found = from_range (a + 1) n x further in let low : a + 1 ≤ x =
          found.0 in let high : x < (a + 1) + n = found.1 in (omega arith, omega arith)
    ]

in_letters : (z x : ℕ) → 0 < x → x < z → IsIn (nonblank_symbols z) x
in_letters z x low high = in_range 1 (z - 1) x (omega arith) (omega arith)

pub from_letters : (z x : ℕ) → IsIn (nonblank_symbols z) x → (0 < x) × (x < z)
from_letters z x h = let found = from_range 1 (z - 1) x h in let low : 1 ≤ x = found.0 in let high : x < 1 + (z - 1) =
    found.1 in (omega arith, omega arith)

in_compute : (p : Program) (r : Rule Name) → IsIn (compute_rules p.quints) r → IsIn (bennett p) r
unfolding bennett
in_compute p r h = in_left (compute_rules p.quints ++ copy_rules (final_of p.quints) (length p.quints) p.symbols)
    (retrace_rules p.quints) r (in_left (compute_rules p.quints)
    (copy_rules (final_of p.quints) (length p.quints) p.symbols) r h)

in_copy : (p : Program) (r : Rule Name) → IsIn (copy_rules (final_of p.quints) (length p.quints) p.symbols) r
    → IsIn (bennett p) r
unfolding bennett
in_copy p r h = in_left (compute_rules p.quints ++ copy_rules (final_of p.quints) (length p.quints) p.symbols)
    (retrace_rules p.quints) r (in_right (compute_rules p.quints)
    (copy_rules (final_of p.quints) (length p.quints) p.symbols) r h)

in_retrace : (p : Program) (r : Rule Name) → IsIn (retrace_rules p.quints) r → IsIn (bennett p) r
unfolding bennett
in_retrace p r h = in_right (compute_rules p.quints ++ copy_rules (final_of p.quints) (length p.quints) p.symbols)
    (retrace_rules p.quints) r h

module _ (f n z : ℕ) where
  abbrev begin_part : List (Rule Name)
  begin_part = begins_copy f n ∷ goes_right ∷ []

  abbrev right_part : List (Rule Name)
  right_part = map (copies_letter n) (nonblank_symbols z)

  abbrev turn_part : List (Rule Name)
  turn_part = turns_left n ∷ goes_left ∷ []

  abbrev left_part : List (Rule Name)
  left_part = map (passes_letter n) (nonblank_symbols z)

  abbrev end_part : List (Rule Name)
  end_part = ends_copy f n ∷ []

  in_begin : (r : Rule Name) → IsIn begin_part r → IsIn (copy_rules f n z) r
  in_begin r h = in_left (begin_part ++ right_part ++ turn_part ++ left_part) end_part r
      (in_left (begin_part ++ right_part ++ turn_part) left_part r
      (in_left (begin_part ++ right_part) turn_part r (in_left begin_part right_part r h)))

  in_right_part : (r : Rule Name) → IsIn right_part r → IsIn (copy_rules f n z) r
  in_right_part r h = in_left (begin_part ++ right_part ++ turn_part ++ left_part) end_part r
      (in_left (begin_part ++ right_part ++ turn_part) left_part r
      (in_left (begin_part ++ right_part) turn_part r (in_right begin_part right_part r h)))

  in_turn : (r : Rule Name) → IsIn turn_part r → IsIn (copy_rules f n z) r
  in_turn r h = in_left (begin_part ++ right_part ++ turn_part ++ left_part) end_part r
      (in_left (begin_part ++ right_part ++ turn_part) left_part r (in_right (begin_part ++ right_part) turn_part r h))

  in_left_part : (r : Rule Name) → IsIn left_part r → IsIn (copy_rules f n z) r
  in_left_part r h = in_left (begin_part ++ right_part ++ turn_part ++ left_part) end_part r
      (in_right (begin_part ++ right_part ++ turn_part) left_part r h)

  in_end : (r : Rule Name) → IsIn end_part r → IsIn (copy_rules f n z) r
  in_end r h = in_right (begin_part ++ right_part ++ turn_part ++ left_part) end_part r h

module _ (p : Program) where
  pub has_writes_ahead : (m : ℕ) (q : Quint) → nth p.quints m ≡ Some q → IsIn (bennett p) (writes_ahead m q)
  has_writes_ahead m q e = in_compute p (writes_ahead m q) (in_flat_map compute_pair (numbered_quints p.quints) (m, q)
      (writes_ahead m q) (in_numbered p.quints m q e) (in_head (writes_ahead m q) (shifts_ahead m q ∷ [])))

  pub has_shifts_ahead : (m : ℕ) (q : Quint) → nth p.quints m ≡ Some q → IsIn (bennett p) (shifts_ahead m q)
  has_shifts_ahead m q e = in_compute p (shifts_ahead m q) (in_flat_map compute_pair (numbered_quints p.quints) (m, q)
      (shifts_ahead m q) (in_numbered p.quints m q e) (in_tail (writes_ahead m q) (shifts_ahead m q)
      (shifts_ahead m q ∷ []) (in_head (shifts_ahead m q) [])))

  pub has_shifts_back : (m : ℕ) (q : Quint) → nth p.quints m ≡ Some q → IsIn (bennett p) (shifts_back m q)
  has_shifts_back m q e = in_retrace p (shifts_back m q) (in_flat_map retrace_pair (reverse (numbered_quints p.quints))
      (m, q) (shifts_back m q) (in_reverse (numbered_quints p.quints) (m, q) (in_numbered p.quints m q e))
      (in_head (shifts_back m q) (writes_back m q ∷ [])))

  pub has_writes_back : (m : ℕ) (q : Quint) → nth p.quints m ≡ Some q → IsIn (bennett p) (writes_back m q)
  has_writes_back m q e = in_retrace p (writes_back m q) (in_flat_map retrace_pair (reverse (numbered_quints p.quints))
      (m, q) (writes_back m q) (in_reverse (numbered_quints p.quints) (m, q) (in_numbered p.quints m q e))
      (in_tail (shifts_back m q) (writes_back m q) (writes_back m q ∷ []) (in_head (writes_back m q) [])))

  pub has_begins_copy : IsIn (bennett p) (begins_copy (final_of p.quints) (length p.quints))
  has_begins_copy = in_copy p _ (in_begin (final_of p.quints) (length p.quints) p.symbols _ (in_head _ _))

  pub has_goes_right : IsIn (bennett p) goes_right
  has_goes_right = in_copy p _ (in_begin (final_of p.quints) (length p.quints) p.symbols _
      (in_tail _ _ _ (in_head _ _)))

  pub has_copies_letter : (x : ℕ) → 0 < x → x < p.symbols → IsIn (bennett p) (copies_letter (length p.quints) x)
  has_copies_letter x low high = in_copy p _ (in_right_part (final_of p.quints) (length p.quints) p.symbols _
      (in_map (copies_letter (length p.quints)) (nonblank_symbols p.symbols) x (in_letters p.symbols x low high)))

  pub has_turns_left : IsIn (bennett p) (turns_left (length p.quints))
  has_turns_left = in_copy p _ (in_turn (final_of p.quints) (length p.quints) p.symbols _ (in_head _ _))

  pub has_goes_left : IsIn (bennett p) goes_left
  has_goes_left = in_copy p _ (in_turn (final_of p.quints) (length p.quints) p.symbols _ (in_tail _ _ _ (in_head _ _)))

  pub has_passes_letter : (x : ℕ) → 0 < x → x < p.symbols → IsIn (bennett p) (passes_letter (length p.quints) x)
  has_passes_letter x low high = in_copy p _ (in_left_part (final_of p.quints) (length p.quints) p.symbols _
      (in_map (passes_letter (length p.quints)) (nonblank_symbols p.symbols) x (in_letters p.symbols x low high)))

  pub has_ends_copy : IsIn (bennett p) (ends_copy (final_of p.quints) (length p.quints))
  has_ends_copy = in_copy p _ (in_end (final_of p.quints) (length p.quints) p.symbols _ (in_head _ _))

-- what holds of the two quadruples of each quintuple
each_of_pairs : (P : Rule Name → Type 0) (first second : ℕ → Quint → Rule Name) (qs : List Quint)
    (es : List (ℕ × Quint)) → ((m : ℕ) (q : Quint) → IsIn es (m, q) → IsIn (numbered_quints qs) (m, q))
    → ((m : ℕ) (q : Quint) → nth qs m ≡ Some q → P (first m q))
    → ((m : ℕ) (q : Quint) → nth qs m ≡ Some q → P (second m q)) → (r : Rule Name)
    → IsIn (flat_map (λ (e : ℕ × Quint). first e.0 e.1 ∷ second e.0 e.1 ∷ []) es) r → P r
each_of_pairs P first second qs es listed one two r h =
    let found = from_flat_map (λ (e : ℕ × Quint). first e.0 e.1 ∷ second e.0 e.1 ∷ []) es r h in
    let stands = from_numbered qs found.0.0 found.0.1 (listed found.0.0 found.0.1 found.1) in
    each_of_two P (first found.0.0 found.0.1) (second found.0.0 found.0.1) (one found.0.0 found.0.1 stands)
    (two found.0.0 found.0.1 stands) r found.2

-- what holds of a quadruple of each letter
pub each_of_letters : (P : Rule Name → Type 0) (kind : ℕ → Rule Name) (z : ℕ) → ((x : ℕ) → 0 < x → x < z → P (kind x))
    → (r : Rule Name) → IsIn (map kind (nonblank_symbols z)) r → P r
each_of_letters P kind z each r h =
    let found = from_map kind (nonblank_symbols z) r h in
    let among = from_letters z found.0 found.1 in
    subst P found.2 (each found.0 among.0 among.1)

-- What holds of each kind of quadruple, one premise a kind in the order of the list, holds of every quadruple of the
-- list.
module _ (P : Rule Name → Type 0) where
  pub each_compute_rule : (qs : List Quint) → ((m : ℕ) (q : Quint) → nth qs m ≡ Some q → P (writes_ahead m q))
      → ((m : ℕ) (q : Quint) → nth qs m ≡ Some q → P (shifts_ahead m q)) → (r : Rule Name) → IsIn (compute_rules qs) r
      → P r
  each_compute_rule qs a b r h = each_of_pairs P writes_ahead shifts_ahead qs (numbered_quints qs) (λ m q e. e) a b r h

  pub each_retrace_rule : (qs : List Quint) → ((m : ℕ) (q : Quint) → nth qs m ≡ Some q → P (shifts_back m q))
      → ((m : ℕ) (q : Quint) → nth qs m ≡ Some q → P (writes_back m q)) → (r : Rule Name) → IsIn (retrace_rules qs) r
      → P r
  each_retrace_rule qs a b r h = each_of_pairs P shifts_back writes_back qs (reverse (numbered_quints qs))
      (λ m q e. subst (λ es. IsIn es (m, q)) (reverse-reverse (numbered_quints qs))
      (in_reverse (reverse (numbered_quints qs)) (m, q) e)) a b r h

  pub each_copy_rule : (f n z : ℕ) → P (begins_copy f n) → P goes_right
      → ((x : ℕ) → 0 < x → x < z → P (copies_letter n x)) → P (turns_left n) → P goes_left
      → ((x : ℕ) → 0 < x → x < z → P (passes_letter n x)) → P (ends_copy f n) → (r : Rule Name)
      → IsIn (copy_rules f n z) r → P r
  each_copy_rule f n z a b c d e g i r h =
      elim (in_append (begin_part f n z ++ right_part f n z ++ turn_part f n z ++ left_part f n z) (end_part f n z)
      r h) [
        | inr last ↦ each_of_one P (ends_copy f n) i r last
        | inl h ↦ elim (in_append (begin_part f n z ++ right_part f n z ++ turn_part f n z) (left_part f n z) r h) [
          | inr passes ↦ each_of_letters P (passes_letter n) z g r passes
          | inl h ↦ elim (in_append (begin_part f n z ++ right_part f n z) (turn_part f n z) r h) [
            | inr turn ↦ each_of_two P (turns_left n) goes_left d e r turn
            | inl h ↦ elim (in_append (begin_part f n z) (right_part f n z) r h) [
              | inr copies ↦ each_of_letters P (copies_letter n) z c r copies
              | inl begin ↦ each_of_two P (begins_copy f n) goes_right a b r begin
            ]
          ]
        ]
      ]

  pub each_rule : (p : Program) → ((m : ℕ) (q : Quint) → nth p.quints m ≡ Some q → P (writes_ahead m q))
      → ((m : ℕ) (q : Quint) → nth p.quints m ≡ Some q → P (shifts_ahead m q))
      → P (begins_copy (final_of p.quints) (length p.quints)) → P goes_right
      → ((x : ℕ) → 0 < x → x < p.symbols → P (copies_letter (length p.quints) x)) → P (turns_left (length p.quints))
      → P goes_left → ((x : ℕ) → 0 < x → x < p.symbols → P (passes_letter (length p.quints) x))
      → P (ends_copy (final_of p.quints) (length p.quints)) → ((m : ℕ) (q : Quint) → nth p.quints m ≡ Some q
      → P (shifts_back m q)) → ((m : ℕ) (q : Quint) → nth p.quints m ≡ Some q → P (writes_back m q)) → (r : Rule Name)
      → IsIn (bennett p) r → P r
  unfolding bennett
  each_rule p a b c d e f g i j k l r h =
      elim (in_append (compute_rules p.quints ++ copy_rules (final_of p.quints) (length p.quints) p.symbols)
      (retrace_rules p.quints) r h) [
        | inr back ↦ each_retrace_rule p.quints k l r back
        | inl h ↦ elim (in_append (compute_rules p.quints) (copy_rules (final_of p.quints) (length p.quints) p.symbols)
            r h) [
              | inr copy ↦ each_copy_rule (final_of p.quints) (length p.quints) p.symbols c d e f g i j r copy
              | inl forth ↦ each_compute_rule p.quints a b r forth
            ]
      ]
