-- The run of the machine of k increments on 1011, step by step on a list of cells.
use Rattle.std.specs.Prelude.{◌≡◌, ◌≢◌, ℕ, ◌+◌, ◌*◌, ◌<◌, ◌≤◌, ◌==◌, ◌&&◌, true, false, nat_lt, if◌then◌else◌, pos}
use Rattle.std.specs.Prelude.{◌+ℤ◌, List, [], ◌∷◌, ◌++◌, length, Option, Some, None, slice_index, refl, ◌⊎◌}
use Rattle.std.proofs.Common.{zero, suc, arith, sym, ap, subst, ◌∙◌, inl, inr, get_or, set}
use Rattle.std.proofs.lemmas.Int.{ints}
use Rattle.std.proofs.lemmas.Bool.{cases_lt}
use Rattle.std.proofs.lemmas.Bool.Decides.{eqb_tells}
use Rattle.bn_lists.specs.Lists.{nth}
use Rattle.bn_lists.specs.Runs.{Reaches}
use Rattle.bn_machine.specs.declared.quint.Quint.{Quint}
use Rattle.bn_machine.specs.declared.quint.Shift.{Shift}
use Rattle.bn_machine.specs.declared.quint.Shift.TheVariants.{Left, Stay, Right}
use Rattle.bn_machine.specs.Machine.{Program, Moment, Matches, IsFirstMatch, MachineRunsTo, final_of, start}
use Rattle.bn_machine.specs.Outcome.{halts, copied}
use Rattle.bn_machine.specs.Tape.{cells_from, scanned, write, shift, moved}
use Rattle.bn_machine.specs.Window.{within, IsBetween}
use Rattle.bn_boards.proofs.FirstLemmas.{below, not_below}
use Rattle.bn_machine.proofs.TapeLemmas.{symbol_at-cells_from, cells_from-set, cells_from-blanks, cells_from-trailing}
use Rattle.bn_gen.specs.Increments.{IsRoundCount, incrementer}
use Rattle.bn_reply_boards.specs.GenerateReply.{digits}
use Rattle.bn_headline.specs.GeneratedRuns.{output_for, GeneratedRunsHalt}
use Rattle.bn_headline.proofs.GeneratedBoardLemmas.{by_rounds}

-- ---- the first quintuple that matches

abbrev later : Option (ℕ × Quint) → Option (ℕ × Quint)
later None = None
later (Some r) = Some (suc r.0, r.1)

abbrev find_by : ℕ → ℕ → List Quint → Option (ℕ × Quint)
find_by a c [] = None
find_by a c (q ∷ qs) = if q.state == a && q.read == c then Some (1, q) else later (find_by a c qs)

both : (a b c d : ℕ) → (((a == b && c == d) ≡ true) × (b ≡ a) × (d ≡ c))
    ⊎ (((a == b && c == d) ≡ false) × (b ≡ a → d ≡ c → ⊥))
both a b c d =
    elim (eqb_tells a b) [
      | inl first ↦ (elim (eqb_tells c d) [
        | inl second ↦ inl (rw (first.0, second.0) refl, sym first.1, sym second.1)
        | inr second ↦ inr (rw (first.0, second.0) refl, λ x y. second.1 (sym y))
      ])
      | inr first ↦ inr (rw first.0 refl, λ x y. first.1 (sym x))
    ]

found : (a c : ℕ) (qs : List Quint) (r : ℕ × Quint) → find_by a c qs ≡ Some r → IsFirstMatch qs a c r.0 r.1
found a c [] r h = absurd (cc)
found a c (q ∷ qs) r h = by (λ x e. found a c qs x e) (both q.state a q.read c)
  where
    here : Some (1, q) ≡ Some r → a ≡ q.state → c ≡ q.read → IsFirstMatch (q ∷ qs) a c r.0 r.1
    here is from reads =
        let same : ◌≡◌ {A = ℕ × Quint} (1, q) r = cc in
        subst (λ (x : ℕ × Quint). IsFirstMatch (q ∷ qs) a c x.0 x.1) same (record {
          stands = refl;
          holds = record { from = from; reads = reads };
          first = λ m y low at. absurd (none m y low at);
        })
      where
        none : (m : ℕ) (y : Quint) → m < 1 → nth (q ∷ qs) m ≡ Some y → ⊥
        none zero y low at = cc
        none (suc m) y low at = omega arith

    further : (x : ℕ × Quint) → IsFirstMatch qs a c x.0 x.1 → (a ≡ q.state → c ≡ q.read → ⊥)
        → IsFirstMatch (q ∷ qs) a c (suc x.0) x.1
    further (zero, x) rest other = absurd (none rest.stands)
      where
        none : None ≡ Some x → ⊥
        none e = cc
    further (suc i, x) rest other = record { stands = rest.stands; holds = rest.holds; first = before }
      where
        before : (m : ℕ) (y : Quint) → m < suc (suc i) → nth (q ∷ qs) m ≡ Some y → Matches y a c → ⊥
        before zero y low at is = cc
        before (suc zero) y low at is =
            let same : y ≡ q = cc in
            other (is.from ∙ ap (λ (z : Quint). z.state) same) (is.reads ∙ ap (λ (z : Quint). z.read) same)
        before (suc (suc m)) y low at is = rest.first (suc m) y (omega arith) at is

    behind : ((x : ℕ × Quint) → find_by a c qs ≡ Some x → IsFirstMatch qs a c x.0 x.1) → (o : Option (ℕ × Quint))
        → find_by a c qs ≡ o → later o ≡ Some r → (a ≡ q.state → c ≡ q.read → ⊥) → IsFirstMatch (q ∷ qs) a c r.0 r.1
    behind rec None at is other = absurd (cc)
    behind rec (Some x) at is other =
        let same : ◌≡◌ {A = ℕ × Quint} (suc x.0, x.1) r = cc in
        subst (λ (y : ℕ × Quint). IsFirstMatch (q ∷ qs) a c y.0 y.1) same (further x (rec x at) other)

    by : ((x : ℕ × Quint) → find_by a c qs ≡ Some x → IsFirstMatch qs a c x.0 x.1)
        → (((q.state == a && q.read == c) ≡ true) × (a ≡ q.state) × (c ≡ q.read))
        ⊎ (((q.state == a && q.read == c) ≡ false) × (a ≡ q.state → c ≡ q.read → ⊥))
        → IsFirstMatch (q ∷ qs) a c r.0 r.1
    by rec (inl met) = here (sym (rw met.0 refl) ∙ h) met.1 met.2
    by rec (inr other) = behind rec (find_by a c qs) refl (sym (rw other.0 refl) ∙ h) other.1

-- ---- a machine on a list of six cells

record Snap : Type 0 where
  state : ℕ
  head : ℕ
  cells : List ℕ

abbrev snap : ℕ → ℕ → List ℕ → Snap
snap state head cells = record { state = state; head = head; cells = cells }

abbrev moment_of : Snap → Moment
moment_of s = record { state = s.state; tape = record { cells = cells_from (pos 0) s.cells; head = pos s.head } }

-- where the head comes to, if that is one of the six cells
abbrev head_on : ℕ → Shift → Option ℕ
head_on zero Left = None
head_on (suc h) Left = Some h
head_on h Stay = Some h
head_on h Right = if nat_lt h 5 then Some (suc h) else None

abbrev placed : Quint → List ℕ → ℕ → Option ℕ → Option Snap
placed q cells h None = None
placed q cells h (Some g) = Some (snap q.next g (set cells h q.write))

abbrev by_quint : List ℕ → ℕ → Option (ℕ × Quint) → Option Snap
by_quint cells h None = None
by_quint cells h (Some r) = placed r.1 cells h (head_on h r.1.shift)

abbrev step : Program → Snap → Option Snap
step p s =
    if s.state == final_of p.quints then None
    else if length s.cells == 6 && nat_lt s.head 6 then by_quint s.cells s.head
    (find_by s.state (get_or s.cells s.head 0) p.quints) else None

abbrev onward : Program → (Snap → Option Snap) → Option Snap → Option Snap
onward p rest None = None
onward p rest (Some s) = rest s

abbrev steps : Program → ℕ → Snap → Option Snap
steps p zero s = Some s
steps p (suc n) s = onward p (steps p n) (step p s)

-- the head's new place
head_moved : (h g : ℕ) (v : Shift) → h < 6 → head_on h v ≡ Some g → (moved (pos h) v ≡ pos g) × (g < 6)
head_moved zero g Left low is = absurd (cc)
head_moved (suc h) g Left low is = let same : h ≡ g = cc in (omega (arith, ints), omega arith)
head_moved zero g Stay low is = let same : 0 ≡ g = cc in (ap pos same, omega arith)
head_moved (suc h) g Stay low is = let same : suc h ≡ g = cc in (ap pos same, omega arith)
head_moved zero g Right low is = let same : 1 ≡ g = cc in (omega (arith, ints), omega arith)
head_moved (suc zero) g Right low is = let same : 2 ≡ g = cc in (omega (arith, ints), omega arith)
head_moved (suc (suc zero)) g Right low is = let same : 3 ≡ g = cc in (omega (arith, ints), omega arith)
head_moved (suc (suc (suc zero))) g Right low is = let same : 4 ≡ g = cc in (omega (arith, ints), omega arith)
head_moved (suc (suc (suc (suc zero)))) g Right low is = let same : 5 ≡ g = cc in (omega (arith, ints), omega arith)
head_moved (suc (suc (suc (suc (suc h))))) g Right low is = absurd (none (omega arith) is)
  where
    none : h ≡ 0 → head_on (suc (suc (suc (suc (suc h))))) Right ≡ Some g → ⊥
    none z e = let there : head_on 5 Right ≡ Some g = subst (λ x. head_on (suc (suc (suc (suc (suc x))))) Right
        ≡ Some g) z e in cc

-- one step, by the quintuple that is found
goes_by : (p : Program) (s t : Snap) (r : ℕ × Quint) (g : ℕ) → length s.cells ≡ 6 → s.head < 6
    → s.state ≢ final_of p.quints
    → find_by s.state (get_or s.cells s.head 0) p.quints ≡ Some r → head_on s.head r.1.shift ≡ Some g
    → t ≡ snap r.1.next g (set s.cells s.head r.1.write)
    → MachineRunsTo (within 0 5) p (moment_of s) (moment_of t)
goes_by p s t r g long low going is on at =
    let scans : scanned (moment_of s).tape ≡ get_or s.cells s.head 0 =
    symbol_at-cells_from s.cells (pos 0) s.head (pos s.head) (omega (arith, ints)) in
    let match = found s.state (get_or s.cells s.head 0) p.quints r is in
    let head = head_moved s.head g r.1.shift low on in
    let written : cells_from (pos 0) (set s.cells s.head r.1.write) ≡ (write (moment_of s).tape r.1.write).cells =
    cells_from-set s.cells (pos 0) s.head r.1.write (pos s.head) (omega arith) (omega (arith, ints)) in
    let tape : (moment_of (snap r.1.next g (set s.cells s.head r.1.write))).tape
    ≡ shift (write (moment_of s).tape r.1.write) r.1.shift = λ i. record { cells = written i; head = sym head.0 i }
    in
    subst (λ u. MachineRunsTo (within 0 5) p (moment_of s) (moment_of u)) (sym at) (
      r.0,
      record {
        going = going;
        quint = r.1;
        match = subst (λ c. IsFirstMatch p.quints s.state c r.0 r.1) (sym scans) match;
        applies = record { from = match.holds.from; reads = scans ∙ match.holds.reads; writes = tape; to = refl };
        stays = inside g head.1;
      },
    )
  where
    inside : (g : ℕ) → g < 6 → IsBetween 0 5 (pos g)
    inside g low = record { above = omega (arith, ints); below = omega (arith, ints) }

stepped : (p : Program) (s t : Snap) → step p s ≡ Some t → MachineRunsTo (within 0 5) p (moment_of s) (moment_of t)
stepped p s t h = by (eqb_tells s.state (final_of p.quints))
  where
    by_place : s.state ≢ final_of p.quints → length s.cells ≡ 6 → s.head < 6 → (r : ℕ × Quint)
        → find_by s.state (get_or s.cells s.head 0) p.quints ≡ Some r
        → (o : Option ℕ) → head_on s.head r.1.shift ≡ o → placed r.1 s.cells s.head o ≡ Some t
        → MachineRunsTo (within 0 5) p (moment_of s) (moment_of t)
    by_place going long low r is None on e = absurd (cc)
    by_place going long low r is (Some g) on e =
        let same : t ≡ snap r.1.next g (set s.cells s.head r.1.write) = cc in
        goes_by p s t r g long low going is on same

    by_find : s.state ≢ final_of p.quints → length s.cells ≡ 6 → s.head < 6 → (o : Option (ℕ × Quint))
        → find_by s.state (get_or s.cells s.head 0) p.quints ≡ o
        → by_quint s.cells s.head o ≡ Some t → MachineRunsTo (within 0 5) p (moment_of s) (moment_of t)
    by_find going long low None is e = absurd (cc)
    by_find going long low (Some r) is e = by_place going long low r is (head_on s.head r.1.shift) refl e

    none_some : None ≡ Some t → ⊥
    none_some e = cc

    inside : s.state ≢ final_of p.quints → (s.state == final_of p.quints) ≡ false
        → (((length s.cells == 6) ≡ true) × (length s.cells ≡ 6))
        ⊎ (((length s.cells == 6) ≡ false) × (length s.cells ≢ 6)) → (s.head < 6) ⊎ (6 ≤ s.head)
        → MachineRunsTo (within 0 5) p (moment_of s) (moment_of t)
    inside going apart (inl long) (inl low) =
        by_find going long.1 low (find_by s.state (get_or s.cells s.head 0) p.quints) refl
        (sym (rw (apart, long.0, below s.head 6 low) refl) ∙ h)
    inside going apart (inl long) (inr high) = absurd (none_some
        (sym (rw (apart, long.0, not_below s.head 6 high) refl) ∙ h))
    inside going apart (inr short) other = absurd (none_some (sym (rw (apart, short.0) refl) ∙ h))

    by : (((s.state == final_of p.quints) ≡ true) × (s.state ≡ final_of p.quints))
        ⊎ (((s.state == final_of p.quints) ≡ false) × (s.state ≢ final_of p.quints))
        → MachineRunsTo (within 0 5) p (moment_of s) (moment_of t)
    by (inl final) = absurd (none_some (sym (rw final.0 refl) ∙ h))
    by (inr going) = inside going.1 going.0 (eqb_tells (length s.cells) 6) (cases_lt s.head 6)

ran : (p : Program) (n : ℕ) (s t : Snap) → steps p n s ≡ Some t
    → Reaches (MachineRunsTo (within 0 5) p) n (moment_of s) (moment_of t)
ran p zero s t h = let same : s ≡ t = cc in ap moment_of same
ran p (suc n) s t h = by (λ u e. ran p n u t e) (step p s) refl h
  where
    by : ((u : Snap) → steps p n u ≡ Some t → Reaches (MachineRunsTo (within 0 5) p) n (moment_of u) (moment_of t))
        → (o : Option Snap) → step p s ≡ o → onward p (steps p n) o ≡ Some t
        → Reaches (MachineRunsTo (within 0 5) p) (suc n) (moment_of s) (moment_of t)
    by rec None is e = absurd (cc)
    by rec (Some u) is e = (moment_of u, stepped p s u is, rec u e)

-- ---- the run

abbrev first_snap : Snap
first_snap = snap 0 0 (0 ∷ 2 ∷ 1 ∷ 2 ∷ 2 ∷ 0 ∷ [])

abbrev last_snap : ℕ → Snap
last_snap k = snap (3 * k + 1) 0 (0 ∷ output_for k ++ 0 ∷ [])

-- the list stands for the start
starts_there : (k : ℕ) → IsRoundCount k → moment_of first_snap ≡ start (incrementer k) digits
starts_there k is =
    let cells : cells_from (pos 0) (0 ∷ 2 ∷ 1 ∷ 2 ∷ 2 ∷ 0 ∷ []) ≡ cells_from (pos 1) digits =
    cells_from-blanks 1 (pos 0) (2 ∷ 1 ∷ 2 ∷ 2 ∷ 0 ∷ []) (pos 1) (omega (arith, ints))
    ∙ cells_from-trailing digits (pos 1) 1 in
    λ i. record { state = 0; tape = record { cells = cells i; head = pos 0 } }

whole_run : (k : ℕ) → IsRoundCount k → steps (incrementer k) (10 * k + 1) first_snap ≡ Some (last_snap k)
whole_run = by_rounds (λ k. steps (incrementer k) (10 * k + 1) first_snap ≡ Some (last_snap k)) refl refl refl refl

final_there : (k : ℕ) → IsRoundCount k → 3 * k + 1 ≡ final_of (incrementer k).quints
final_there = by_rounds (λ k. 3 * k + 1 ≡ final_of (incrementer k).quints) refl refl refl refl

-- four letters, none of them blank, and a blank behind them
record IsFour (y : List ℕ) : Type 0 where
  long : length y ≡ 4
  letters : (k : ℕ) → k < 4 → slice_index y k ≢ 0
  spelled : (k : ℕ) → k < 4 → get_or (0 ∷ y ++ 0 ∷ []) (suc k) 0 ≡ slice_index y k
  ended : get_or (0 ∷ y ++ 0 ∷ []) 5 0 ≡ 0

four : (a b c d : ℕ) → 0 < a → 0 < b → 0 < c → 0 < d → IsFour (a ∷ b ∷ c ∷ d ∷ [])
four a b c d w x y z = record { long = refl; letters = letters; spelled = spelled; ended = refl }
  where
    some : (n : ℕ) → 0 < n → n ≢ 0
    some n low is = omega arith

    letters : (k : ℕ) → k < 4 → slice_index (a ∷ b ∷ c ∷ d ∷ []) k ≢ 0
    letters zero low = some a w
    letters (suc zero) low = some b x
    letters (suc (suc zero)) low = some c y
    letters (suc (suc (suc zero))) low = some d z
    letters (suc (suc (suc (suc k)))) low = absurd (omega arith)

    spelled : (k : ℕ) → k < 4 → get_or (0 ∷ (a ∷ b ∷ c ∷ d ∷ []) ++ 0 ∷ []) (suc k) 0
        ≡ slice_index (a ∷ b ∷ c ∷ d ∷ []) k
    spelled zero low = refl
    spelled (suc zero) low = refl
    spelled (suc (suc zero)) low = refl
    spelled (suc (suc (suc zero))) low = refl
    spelled (suc (suc (suc (suc k)))) low = absurd (omega arith)

outputs_four : (k : ℕ) → IsRoundCount k → IsFour (output_for k)
outputs_four = by_rounds (λ k. IsFour (output_for k)) (four 2 2 1 1 (omega arith) (omega arith) (omega arith)
    (omega arith)) (four 2 2 1 2 (omega arith) (omega arith) (omega arith) (omega arith))
    (four 2 2 2 1 (omega arith) (omega arith) (omega arith) (omega arith))
    (four 2 2 2 2 (omega arith) (omega arith) (omega arith) (omega arith))

pub generated-halt : GeneratedRunsHalt
generated-halt k is =
    let y = output_for k in
    let four_is = outputs_four k is in
    let long = four_is.long in
    record {
      moment = moment_of (last_snap k);
      run = subst (λ c. Reaches (MachineRunsTo (within 0 5) (incrementer k)) (10 * k + 1) c (moment_of (last_snap k)))
          (starts_there k is) (ran (incrementer k) (10 * k + 1) first_snap (last_snap k) (whole_run k is));
      in_time = omega arith;
      ends = halts y (final_there k is)
          (record {
            letters = λ j low. four_is.letters j (omega arith);
            spelled = λ j low. symbol_at-cells_from (0 ∷ y ++ 0 ∷ []) (pos 0) (suc j) (pos 0 +ℤ pos (suc j)) refl
                ∙ four_is.spelled j (omega arith);
            ended = symbol_at-cells_from (0 ∷ y ++ 0 ∷ []) (pos 0) (suc (length y)) (pos 0 +ℤ pos (suc (length y))) refl
                ∙ ap (λ n. get_or (0 ∷ y ++ 0 ∷ []) (suc n) 0) long ∙ four_is.ended;
          })
          (copied (λ j some few. record { work = omega (arith, ints); output = omega arith }) refl);
    }
