-- How many reads, shifts and writes Bennett's list has.
use Rattle.std.proofs.Common.{◌≡◌, Bool, true, false, cond, ℕ, suc, ◌+◌, ◌-◌, ◌*◌, ◌<◌, List, [], ◌∷◌, ◌++◌, length}
use Rattle.std.proofs.Common.{map, refl, ap, ◌∙◌, arith}
use Rattle.std.proofs.lemmas.List.FromFn.{length-range_with_len}
use Rattle.std.proofs.lemmas.List.Sums.{length-filter}
use Rattle.std.specs.List.{filter}
use Rattle.bn_machine.specs.Machine.{Program, final_of}
use Rattle.bn_machine.specs.Tape.{opposite}
use Rattle.bn_machine.specs.declared.quint.Quint.{Quint}
use Rattle.bn_machine.specs.declared.quint.Shift.{Shift}
use Rattle.bn_machine.specs.declared.quint.Shift.TheVariants.{Left, Stay, Right}
use Rattle.bn_quad.specs.Quadruples.{Rule, deeds_of}
use Rattle.bn_network.specs.Controls.{reads, shifts, shift_at, rising}
use Rattle.bn_bennett_laws.specs.List.{bennett, begins_copy, goes_right, copies_letter, turns_left, goes_left}
use Rattle.bn_bennett_laws.specs.List.{passes_letter, ends_copy, compute_pair, retrace_pair, numbered_quints}
use Rattle.bn_bennett_laws.specs.List.{nonblank_symbols, compute_rules, copy_rules, retrace_rules}
use Rattle.bn_bennett_laws.specs.declared.name.Name.{Name}
use Rattle.bn_headline.specs.CountLaws.{stays, without_shift}
use Rattle.bn_headline.proofs.AlongLemmas.{total, total_append, total_pairs, total_turned, total_kind}

-- a sum over the list, from what each kind of quadruple gives
module _ (g : Rule Name → ℕ) (p : Program) (ahead back : Quint → ℕ) (begin right copy turn left pass end : ℕ)
    (one : (m : ℕ) (q : Quint) → total g (compute_pair (m, q)) ≡ ahead q)
    (two : g (begins_copy (final_of p.quints) (length p.quints)) ≡ begin) (three : g goes_right ≡ right)
    (four : (x : ℕ) → g (copies_letter (length p.quints) x) ≡ copy) (five : g (turns_left (length p.quints)) ≡ turn)
    (six : g goes_left ≡ left) (seven : (x : ℕ) → g (passes_letter (length p.quints) x) ≡ pass)
    (eight : g (ends_copy (final_of p.quints) (length p.quints)) ≡ end)
    (nine : (m : ℕ) (q : Quint) → total g (retrace_pair (m, q)) ≡ back q) where
  pub total_list : total g (bennett p) ≡ total ahead p.quints
      + (begin + right + (p.symbols - 1) * copy + turn + left + (p.symbols - 1) * pass + end) + total back p.quints
  unfolding bennett
  total_list =
      let n : ℕ = length p.quints in
      let f : ℕ = final_of p.quints in
      let forth = total_pairs g compute_pair ahead one 1 p.quints in
      let again = total_turned g retrace_pair (numbered_quints p.quints)
      ∙ total_pairs g retrace_pair back nine 1 p.quints in
      let many : length (nonblank_symbols p.symbols) ≡ p.symbols - 1 = length-range_with_len 1 (p.symbols - 1) in
      let copies = total_kind g (copies_letter n) copy four (nonblank_symbols p.symbols) ∙ ap (λ k. k * copy) many in
      let passes = total_kind g (passes_letter n) pass seven (nonblank_symbols p.symbols) ∙ ap (λ k. k * pass) many in
      let a = begins_copy f n ∷ goes_right ∷ [] in
      let b = map (copies_letter n) (nonblank_symbols p.symbols) in
      let c = turns_left n ∷ goes_left ∷ [] in
      let d = map (passes_letter n) (nonblank_symbols p.symbols) in
      let e = ends_copy f n ∷ [] in
      let s1 = total_append g a b in
      let s2 = total_append g (a ++ b) c in
      let s3 = total_append g (a ++ b ++ c) d in
      let s4 = total_append g (a ++ b ++ c ++ d) e in
      let parts : total g (copy_rules f n p.symbols) ≡ total g a + total g b + total g c + total g d + total g e =
      s4 ∙ ap (λ k. k + total g e) (s3 ∙ ap (λ k. k + total g d) (s2 ∙ ap (λ k. k + total g c) s1)) in
      let known : total g a + total g b + total g c + total g d + total g e
      ≡ (begin + (right + 0)) + (p.symbols - 1) * copy + (turn + (left + 0)) + (p.symbols - 1) * pass + (end + 0)
      = λ i. (two i + (three i + 0)) + copies i + (five i + (six i + 0)) + passes i + (eight i + 0) in
      let middle = parts ∙ known ∙ plain begin right ((p.symbols - 1) * copy) turn left ((p.symbols - 1) * pass) end in
      let first = total_append g (compute_rules p.quints) (copy_rules f n p.symbols) in
      let whole = total_append g (compute_rules p.quints ++ copy_rules f n p.symbols) (retrace_rules p.quints) in
      whole ∙ ap (λ k. k + total g (retrace_rules p.quints)) first ∙ (λ i. forth i + middle i + again i)
    where
      plain : (b r x t l y e : ℕ) → (b + (r + 0)) + x + (t + (l + 0)) + y + (e + 0) ≡ b + r + x + t + l + y + e
      plain b r x t l y e = omega arith

-- one for each
total_same : (qs : List Quint) → total (λ q. 1) qs ≡ length qs
total_same [] = refl
total_same (q ∷ qs) = let more = total_same qs in omega arith

-- two for each that shifts, and one for each other
total_less : (qs : List Quint) → total (λ q. cond (stays q.shift) 1 2) qs
    + length (filter (λ (q : Quint). stays q.shift) qs) ≡ 2 * length qs
total_less [] = refl
total_less (q ∷ qs) = by (stays q.shift) (total_less qs)
  where
    by : (b : Bool) → total (λ (q : Quint). cond (stays q.shift) 1 2) qs
        + length (filter (λ (q : Quint). stays q.shift) qs) ≡ 2 * length qs
        → cond b 1 2 + total (λ (q : Quint). cond (stays q.shift) 1 2) qs
        + length (cond b (q ∷ filter (λ (q : Quint). stays q.shift) qs) (filter (λ (q : Quint). stays q.shift) qs))
        ≡ 2 * suc (length qs)
    by true e = omega arith
    by false e = omega arith

pub more_reads : (p : Program) → 0 < p.symbols → total (λ (r : Rule Name). length (reads 1 (deeds_of r)) - 1)
    (bennett p) ≡ 2 * length p.quints + 4 * p.symbols + 2
more_reads p some =
    let sum = total_list (λ r. length (reads 1 (deeds_of r)) - 1) p (λ q. 1) (λ q. 1) 2 0 2 2 0 2 2 (λ m q. refl) refl
    refl (λ x. refl) refl refl (λ x. refl) refl (λ m q. refl) in
    let each = total_same p.quints in
    omega arith

pub more_writes : (p : Program) → 0 < p.symbols → total (λ (r : Rule Name). length (rising 1 (deeds_of r)) - 1)
    (bennett p) ≡ 2 * length p.quints + 4 * p.symbols + 2
more_writes p some =
    let sum = total_list (λ r. length (rising 1 (deeds_of r)) - 1) p (λ q. 1) (λ q. 1) 2 0 2 2 0 2 2 (λ m q. refl) refl
    refl (λ x. refl) refl refl (λ x. refl) refl (λ m q. refl) in
    let each = total_same p.quints in
    omega arith

pub all_shifts : (p : Program) → total (λ (r : Rule Name). length (shifts 1 (deeds_of r))) (bennett p)
    + 2 * without_shift p ≡ 4 * length p.quints + 4
all_shifts p =
    let sum = total_list (λ r. length (shifts 1 (deeds_of r))) p (λ q. cond (stays q.shift) 1 2)
    (λ q. cond (stays q.shift) 1 2) 0 2 0 0 2 0 0 (λ m q. ahead q.shift) refl refl (λ x. refl) refl refl (λ x. refl)
    refl (λ m q. behind q.shift) in
    let each = total_less p.quints in
    let count = length-filter (λ (q : Quint). stays q.shift) p.quints in
    omega arith
  where
    ahead : (s : Shift) → 1 + (length (shift_at 1 s ++ []) + 0) ≡ cond (stays s) 1 2
    ahead Left = refl
    ahead Stay = refl
    ahead Right = refl

    behind : (s : Shift) → length (shift_at 1 (opposite s) ++ []) + (1 + 0) ≡ cond (stays s) 1 2
    behind Left = refl
    behind Stay = refl
    behind Right = refl
